use Rattle.mpy_round_trip.proofs.Rereading.{no_other}
use Rattle.mpy_round_trip.proofs.laws.spelled_by_no_other.Goals as goal

pub returns : goal.returns
returns c = record { holds = no_other c.one_program.ensures.holds }
