use Rattle.std.proofs.Common.{◌-◌, arith, ap, ◌∙◌, sym, Some}
use Rattle.std.proofs.lemmas.Grind.{common_steps}
use Rattle.mpy_tree.specs.Shapes.{shapes}
use Rattle.choice_tree.specs.Choices.{member_of}
use Rattle.choice_tree.proofs.PlainParts.{exprs_plain, chosen_plain, none_chosen}
use Rattle.choice_tree.proofs.making.+plain.Goals as goal

pub plain_exprs-returns : goal.plain_exprs-returns
plain_exprs-returns t c =
    ap shapes c.from_vec.ensures ∙ exprs_plain (member_of c.args.s.now) c.loop-w.made.items
    c.args.ws.now (grind (arith, common_steps))

pub plain_other-returns-in-None : goal.plain_other-returns-in-None
plain_other-returns-in-None t c =
    sym (none_chosen (member_of c.args.s.now) c.args.others.now c.deref.result.now c.args.member
    (c.args.member - 1) c.deref.ensures.value c.in-None.ensures.lookup.3 (omega arith))

pub plain_other-returns-in_ok-plain_expr-in-Some : goal.plain_other-returns-in_ok-plain_expr-in-Some
plain_other-returns-in_ok-plain_expr-in-Some t c =
    ap Some c.in_ok-plain_expr-in-Some.ensures ∙ sym
    (chosen_plain (member_of c.args.s.now) c.args.others.now c.deref.result.now c.args.member
    (c.args.member - 1) c.in-Some.other.now c.deref.ensures.value c.in-Some.ensures.lookup.3.0
    c.in-Some.ensures.lookup.1 (omega arith))
