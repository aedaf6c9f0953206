use Rattle.sym_values.proofs.Numbers.{number_is}
use Rattle.sym_values.proofs.unary.negated.Goals as goal

pub returns-clause-value : goal.returns-clause-value
returns-clause-value g c vs l e = number_is l _ _ _ _ e (c.in_ok-opposite.ensures.over vs) (c.in_ok-opposite.ensures.value vs)
