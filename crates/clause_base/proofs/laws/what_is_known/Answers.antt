use Rattle.clause_base.proofs.LogLaws.{known_pushed, known_counted, known_by_place}
use Rattle.clause_base.proofs.laws.what_is_known.Goals as goal

pub returns-clause-pushed : goal.returns-clause-pushed
returns-clause-pushed c = known_pushed

pub returns-clause-counted : goal.returns-clause-counted
returns-clause-counted c = known_counted

pub returns-clause-by_place : goal.returns-clause-by_place
returns-clause-by_place c = known_by_place
