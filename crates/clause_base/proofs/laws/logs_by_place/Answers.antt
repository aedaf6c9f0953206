use Rattle.clause_base.proofs.LogLaws.{follows_by_place, fresh_by_place}
use Rattle.clause_base.proofs.laws.logs_by_place.Goals as goal

pub returns-clause-follows : goal.returns-clause-follows
returns-clause-follows c = follows_by_place

pub returns-clause-fresh : goal.returns-clause-fresh
returns-clause-fresh c = fresh_by_place
