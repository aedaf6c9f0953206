use Rattle.sym_values.proofs.Agreements.{told_different}
use Rattle.sym_values.proofs.equality.inequality.Goals as goal

pub returns-clause-value : goal.returns-clause-value
returns-clause-value g c vs v w e f = told_different _ _ _ v w (c.constant-fault.ensures.value vs) (c.in_ok-same.ensures.value vs v w e f) (c.not-bit.ensures.value vs)
