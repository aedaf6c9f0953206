use Rattle.mpy_types.proofs.Raising.{step_more, if_so, if_not}
use Rattle.mpy_types.proofs.solve.pass.Goals as goal
use Rattle.mpy_types.proofs.solve.pass.Goals.{then-step, else-step}

pub loop-f-preserved : goal.loop-f-preserved
loop-f-preserved c =
    step_more c.args.sets.now.items c.loop-f.sets.items c.step.new.sets.items c.args.inflows.now c.loop-f.f-index _ c.loop-f.risen c.loop-f-test.true c.loop-f.invariant
    c.step.result c.if-step.risen c.step.ensures
    (elim c.if-step.branch [
      | then-step w ↦ if_so c.step.result c.if-step.risen c.loop-f.risen w.if-step.true w.risen-is
      | else-step w ↦ if_not c.step.result c.if-step.risen c.loop-f.risen w.if-step.false w.risen-is
    ])
