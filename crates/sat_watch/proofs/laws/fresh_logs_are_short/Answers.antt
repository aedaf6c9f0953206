use Rattle.sat_watch.proofs.Bounded.{fresh_few}
use Rattle.sat_watch.proofs.laws.fresh_logs_are_short.Goals as goal

pub returns : goal.returns
returns c = fresh_few
