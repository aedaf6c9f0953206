use Rattle.dimacs_text.proofs.KeptTrue.{kept_true}
use Rattle.dimacs_text.proofs.laws.kept_is_true.Goals as goal

pub returns : goal.returns
returns c = kept_true
