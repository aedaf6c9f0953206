use Rattle.std.proofs.Common.{map, ◌∙◌}
use Rattle.mpy_tree.specs.View.{routine_of}
use Rattle.mpy_tree.specs.Rules.{single}
use Rattle.mpy_types.proofs.Soonest.{function_more}
use Rattle.mpy_types.proofs.broken.least_broken.Goals as goal

pub loop-i-preserved : goal.loop-i-preserved
loop-i-preserved g c =
    c.loop-i.invariant
    ∙ function_more routine_of (single (g.K.Known.gives c.args.known.now)) (map routine_of c.args.funcs.now) c.args.funcs.now c.loop-i.i c.index-funcs-i.result c.loop-i.first c.in_ok-broken_in.field-0 c.sooner-first.result c.loop-i-test.true c.index-funcs-i.is c.in_ok-broken_in.ensures c.sooner-first.ensures
