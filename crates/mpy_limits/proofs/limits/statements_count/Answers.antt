use Rattle.std.proofs.Common.{length, map, arith, ap}
use Rattle.mpy_tree.specs.View.{routine_of, routines_of}
use Rattle.mpy_limits.specs.Limits.{all_statements}
use Rattle.mpy_limits.proofs.Functions.{left_behind, place_within}
use Rattle.mpy_limits.proofs.limits.statements_count.Goals as goal

pub overflow_sub-result : goal.overflow_sub-result
overflow_sub-result c =
    omega (arith, left_behind (all_statements (map routine_of c.as_slice.result.now)) 200 c.in-Err.left c.in-Err.ensures)

pub returns-in-Ok-clause-none : goal.returns-in-Ok-clause-none
returns-in-Ok-clause-none c =
    rw c.as_slice.ensures.value at (place_within (all_statements (map routine_of c.as_slice.result.now)) 200 c.in-Ok.field-0 c.in-Ok.ensures)

pub returns-in-Err-clause-found : goal.returns-in-Err-clause-found
returns-in-Err-clause-found c =
    let all = all_statements (map routine_of c.as_slice.result.now) in
    let n = left_behind all 200 c.in-Err.left c.in-Err.ensures in
    let same = ap (λ fs. length (all_statements (map routine_of fs))) c.as_slice.ensures.value in
    omega (arith, n, same)
