use Rattle.std.proofs.Common.{map, ◌∙◌}
use Rattle.mpy_tree.specs.View.{routine_of}
use Rattle.mpy_scopes.proofs.Soonest.{arities_more}
use Rattle.mpy_scopes.proofs.faults.least_arity_line.Goals as goal

pub loop-func-preserved : goal.loop-func-preserved
loop-func-preserved c =
    c.loop-func.invariant
    ∙ arities_more routine_of (map routine_of c.args.funcs.now) c.args.funcs.now c.loop-func.func-index c.func-item.result c.loop-func.first c.in_ok-arity_line_in.field-0 c.sooner-first.result c.loop-func-test.true c.func-item.is c.in_ok-arity_line_in.ensures c.sooner-first.ensures
