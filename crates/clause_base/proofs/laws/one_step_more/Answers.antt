use Rattle.clause_base.proofs.LogLaws.{follows_pushed, fresh_pushed}
use Rattle.clause_base.proofs.laws.one_step_more.Goals as goal

pub returns-clause-follows : goal.returns-clause-follows
returns-clause-follows c = follows_pushed

pub returns-clause-fresh : goal.returns-clause-fresh
returns-clause-fresh c = fresh_pushed
