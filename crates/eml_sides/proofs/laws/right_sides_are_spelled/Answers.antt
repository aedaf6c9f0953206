use Rattle.eml_sides.proofs.SidesRead.{right_spelled, right_read}
use Rattle.eml_sides.proofs.laws.right_sides_are_spelled.Goals as goal

pub returns : goal.returns
returns c = record { holds = λ ts p t. (right_spelled ts p t, right_read ts p t) }
