use Rattle.sym_values.proofs.Agreements.{told_equal}
use Rattle.sym_values.proofs.equality.equality.Goals as goal

pub returns-clause-value : goal.returns-clause-value
returns-clause-value g c vs v w e f = told_equal _ _ v w (c.constant-fault.ensures.value vs) (c.in_ok-same.ensures.value vs v w e f)
