use Rattle.dimacs_text.proofs.OneCnf.{one_cnf}
use Rattle.dimacs_text.proofs.laws.one_cnf.Goals as goal

pub returns : goal.returns
returns c = one_cnf
