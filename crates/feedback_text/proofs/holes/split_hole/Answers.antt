use Rattle.feedback_text.proofs.MessageLaws.{none_of_all}
use Rattle.feedback_text.proofs.holes.split_hole.Goals as goal

pub returns : goal.returns
returns c = none_of_all _ _ c.loop-hole-test.false c.loop-hole.invariant
