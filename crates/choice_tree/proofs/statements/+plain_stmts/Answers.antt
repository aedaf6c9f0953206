use Rattle.std.proofs.Common.{arith}
use Rattle.std.proofs.lemmas.Grind.{common_steps}
use Rattle.mpy_tree.specs.View.{branches_of}
use Rattle.choice_tree.specs.Choices.{member_of}
use Rattle.choice_tree.proofs.StatementParts.{body_plain, arms_made, if_plain}
use Rattle.choice_tree.proofs.statements.+plain_stmts.Goals as goal

pub plain_stmts-returns : goal.plain_stmts-returns
plain_stmts-returns t c =
    body_plain (member_of c.args.s.now) c.loop-w.made c.args.b.now c.deref-w-items.result.now
    c.deref-w-items.ensures.value (grind (arith, common_steps))

pub plain_arms-returns : goal.plain_arms-returns
plain_arms-returns t c ts =
    arms_made (member_of c.args.s.now) c.loop-arm.items c.args.arms.now
    c.deref-arm-items.result.now ts c.deref-arm-items.ensures.value (grind (arith, common_steps))

pub plain_act-returns-in_ok-arms-in-If-2 : goal.plain_act-returns-in_ok-arms-in-If-2
plain_act-returns-in_ok-arms-in-If-2 t c =
    if_plain (member_of c.args.s.now) c.args.line c.args.act.now c.in-If.arms c.in-If.last
    c.in_ok-arms-in-If-2.arms c.in_ok-arms-in-If-2.last (branches_of c.in_ok-arms-in-If.arms)
    c.in-If.is c.in_ok-arms-in-If-2.ensures.arms c.in_ok-arms-in-If.ensures
    c.in_ok-arms-in-If-2.ensures.last
