use Rattle.std.proofs.Common.{Bool, ap}
use Rattle.mpy_tree.specs.declared.value.Value.TheVariants as val
use Rattle.sym_values.specs.Reading.{sure}
use Rattle.sym_values.proofs.order.less_than.Goals as goal

pub returns-clause-value : goal.returns-clause-value
returns-clause-value g c vs l e = (c.constant-fault.ensures.value vs, ap (λ (b : Bool). sure (val.Bool b)) (c.in_ok-below.ensures.value vs))
