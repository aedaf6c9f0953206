use Rattle.mpy_round_trip.proofs.ReadBack.{read_back}
use Rattle.mpy_round_trip.proofs.laws.spelled_by_its_text.Goals as goal

pub returns : goal.returns
returns c = record { holds = λ rs p. let r = read_back rs p in (r.routines, (r.reads, r.same)) }
