use Rattle.mpy_round_trip.proofs.ParenthesesLaw.{highest}
use Rattle.mpy_round_trip.proofs.laws.parenthesized_above_its_level.Goals as goal

pub returns : goal.returns
returns c = record { holds = highest }
