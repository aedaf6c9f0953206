use Rattle.std.proofs.Common.{refl}
use Rattle.feedback_text.proofs.MessageLaws.{filled_past}
use Rattle.feedback_text.proofs.edits.EditBy.push_filled.Goals as goal

pub loop-rest-preserved : goal.loop-rest-preserved
loop-rest-preserved c =
    filled_past _ _ _ _ _ _ _ _ c.in-len1-up.len_at_least c.in-None.ensures refl c.in_ok-push-in-None.ensures.items refl c.loop-rest.invariant
