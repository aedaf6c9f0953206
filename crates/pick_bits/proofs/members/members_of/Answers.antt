use Rattle.std.proofs.Common.{◌∙◌, Some, ap, arith}
use Rattle.pick_bits.proofs.members.members_of.Goals as goal

pub returns-clause-many : goal.returns-clause-many
returns-clause-many c = c.others-others.ensures ∙ ap Some (omega arith)
