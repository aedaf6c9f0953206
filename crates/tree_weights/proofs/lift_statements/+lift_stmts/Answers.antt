use Rattle.std.proofs.Common.{arith}
use Rattle.std.proofs.lemmas.Grind.{common_steps}
use Rattle.tree_weights.proofs.LiftedStatements.{arms_lifted, body_lifted, if_lifted}
use Rattle.tree_weights.proofs.lift_statements.+lift_stmts.Goals as goal

pub lift_stmts-returns : goal.lift_stmts-returns
lift_stmts-returns t c =
    body_lifted c.loop-s.items c.args.b.now c.deref-s-items.result.now
    c.deref-s-items.ensures.value (grind (arith, common_steps))

pub lift_arms-returns : goal.lift_arms-returns
lift_arms-returns t c =
    arms_lifted c.loop-arm.items c.args.arms.now c.deref-arm-items.result.now
    c.deref-arm-items.ensures.value (grind (arith, common_steps))

pub lift_act-returns-in_ok-arms-in-If-2 : goal.lift_act-returns-in_ok-arms-in-If-2
lift_act-returns-in_ok-arms-in-If-2 t c =
    if_lifted c.args.line c.args.act.now c.in-If.arms c.in-If.last c.in_ok-arms-in-If-2.arms
    c.in_ok-arms-in-If.arms c.in_ok-arms-in-If-2.last c.in-If.is
    c.in_ok-arms-in-If-2.ensures.arms c.in_ok-arms-in-If.ensures
    c.in_ok-arms-in-If-2.ensures.last
