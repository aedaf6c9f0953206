use Rattle.least_all.proofs.BestLaws.{best_listed}
use Rattle.least_all.proofs.laws.best_programs_are_listed.Goals as goal

pub returns : goal.returns
returns c = best_listed c.selections_make_programs.ensures
