-- the three laws
use Rattle.class_text.proofs.Forks.{apart, one_list, one_stop}
use Rattle.class_text.proofs.laws.one_listing.Goals as goal

pub returns-clause-list : goal.returns-clause-list
returns-clause-list c = one_list

pub returns-clause-stop : goal.returns-clause-stop
returns-clause-stop c = one_stop

pub returns-clause-apart : goal.returns-clause-apart
returns-clause-apart c = apart
