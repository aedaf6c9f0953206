use Rattle.sym_values.proofs.Numbers.{number_is}
use Rattle.sym_values.proofs.sums.difference.Goals as goal

pub returns-clause-value : goal.returns-clause-value
returns-clause-value g c vs l e = number_is l _ _ _ _ e (c.in_ok-total.ensures.over vs) (c.in_ok-total.ensures.value vs)
