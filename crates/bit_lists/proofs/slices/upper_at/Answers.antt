use Rattle.std.proofs.Common.{◌∙◌}
use Rattle.bit_lists.proofs.Cutting.{upper_is}
use Rattle.bit_lists.proofs.slices.upper_at.Goals as goal

pub returns-clause-value : goal.returns-clause-value
returns-clause-value g c vs = c.in_ok-end.ensures.value vs ∙ upper_is _ _
