use Rattle.std.proofs.Common.{◌≡◌, ◌≢◌, ◌<◌, ◌≤◌, length, arith, sym, ◌∙◌}
use Rattle.std.proofs.lemmas.Grind.{common_steps}
use Rattle.mpy_limits.proofs.StatementPlaces.{behind_all, behind_all_arms, behind_arms, behind_next, behind_next_arm, found_at_next, found_in_arms, found_in_next, found_in_next_arm}
use Rattle.mpy_limits.proofs.limits.+statement.Goals as goal

pub statement_at-returns-then-left-eq0 : goal.statement_at-returns-then-left-eq0
statement_at-returns-then-left-eq0 t c =
    let h : c.loop-s.s-index < length c.deref-s-items.result.now = grind (arith, common_steps) in
    let e : c.loop-s.left ≡ 0 = grind (arith, common_steps) in
    sym (c.loop-s.invariant ∙ found_at_next c.deref-s-items.result.now c.loop-s.s-index c.s-item.result c.loop-s.left h c.s-item.is e)

pub statement_at-returns-in-Ok : goal.statement_at-returns-in-Ok
statement_at-returns-in-Ok t c =
    let h : c.loop-s.s-index < length c.deref-s-items.result.now = grind (arith, common_steps) in
    let ne : c.loop-s.left ≢ 0 = grind (arith, common_steps) in
    sym (c.loop-s.invariant ∙ found_in_next c.deref-s-items.result.now c.loop-s.s-index c.s-item.result c.loop-s.left c.in-Ok.line h c.s-item.is ne c.in-Ok.ensures)

pub statement_at-loop-s-preserved : goal.statement_at-loop-s-preserved
statement_at-loop-s-preserved t c =
    let h : c.loop-s.s-index < length c.deref-s-items.result.now = grind (arith, common_steps) in
    let ne : c.loop-s.left ≢ 0 = grind (arith, common_steps) in
    c.loop-s.invariant ∙ behind_next c.deref-s-items.result.now c.loop-s.s-index c.s-item.result c.loop-s.left c.in-Err.after h c.s-item.is ne c.in-Err.ensures

pub statement_at-returns : goal.statement_at-returns
statement_at-returns t c =
    let h : length c.deref-s-items.result.now ≤ c.loop-s.s-index = grind (arith, common_steps) in
    sym (c.loop-s.invariant ∙ behind_all c.deref-s-items.result.now c.loop-s.s-index c.loop-s.left h)

pub statement_in-returns-in-Ok : goal.statement_in-returns-in-Ok
statement_in-returns-in-Ok t c = found_in_arms c.args.act.now c.in-If.arms c.in-If.last c.args.n c.in-Ok.line c.in-If.is c.in-Ok.ensures

pub statement_in-returns-in-Err : goal.statement_in-returns-in-Err
statement_in-returns-in-Err t c = behind_arms c.args.act.now c.in-If.arms c.in-If.last c.args.n c.in-Err.left c.statement_in_else.result c.in-If.is c.in-Err.ensures c.statement_in_else.ensures

pub statement_in_arms-returns-in-Ok : goal.statement_in_arms-returns-in-Ok
statement_in_arms-returns-in-Ok t c =
    let h : c.loop-arm.arm-index < length c.deref-arm-items.result.now = grind (arith, common_steps) in
    sym (c.loop-arm.invariant ∙ found_in_next_arm c.deref-arm-items.result.now c.loop-arm.arm-index c.arm-item.result c.loop-arm.left c.in-Ok.line h c.arm-item.is c.in-Ok.ensures)

pub statement_in_arms-loop-arm-preserved : goal.statement_in_arms-loop-arm-preserved
statement_in_arms-loop-arm-preserved t c =
    let h : c.loop-arm.arm-index < length c.deref-arm-items.result.now = grind (arith, common_steps) in
    c.loop-arm.invariant ∙ behind_next_arm c.deref-arm-items.result.now c.loop-arm.arm-index c.arm-item.result c.loop-arm.left c.in-Err.after h c.arm-item.is c.in-Err.ensures

pub statement_in_arms-returns : goal.statement_in_arms-returns
statement_in_arms-returns t c =
    let h : length c.deref-arm-items.result.now ≤ c.loop-arm.arm-index = grind (arith, common_steps) in
    sym (c.loop-arm.invariant ∙ behind_all_arms c.deref-arm-items.result.now c.loop-arm.arm-index c.loop-arm.left h)
