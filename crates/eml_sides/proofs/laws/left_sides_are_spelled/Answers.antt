use Rattle.eml_sides.proofs.SidesRead.{left_spelled, left_read}
use Rattle.eml_sides.proofs.laws.left_sides_are_spelled.Goals as goal

pub returns : goal.returns
returns c = record { holds = λ ts p t. (left_spelled ts p t, left_read ts p t) }
