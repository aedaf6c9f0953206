use Rattle.sym_values.proofs.Numbers.{number_is}
use Rattle.sym_values.proofs.unary.absolute_value.Goals as goal

pub returns-clause-value : goal.returns-clause-value
returns-clause-value g c vs l e =
    let size = c.in_ok-size.ensures.value vs in
    let number = c.in_ok-number.ensures in
    number_is l _ _ _ _ e (rw (c.as_slice.ensures, c.len.ensures, size) at (number.over vs)) (rw (c.as_slice.ensures, c.len.ensures, size) at (number.value vs))
