use Rattle.std.proofs.Common.{arith, sym, ◌∙◌}
use Rattle.cost_levels.proofs.Ordered.{decides, ends, go_on}
use Rattle.cost_levels.proofs.levels.order.Goals as goal

pub returns-then-i-eq0 : goal.returns-then-i-eq0
returns-then-i-eq0 c =
    c.cmp.ensures ∙ ends c.args.a.now c.args.b.now c.last.i c.last.j c.last.invariant.first c.last.invariant.second c.then-i-eq0.either
    ∙ c.last.invariant.same

pub last-preserved : goal.last-preserved
last-preserved c =
    let some = c.if-i-eq0.false in
    let any = c.if-j-eq0.false in
    let first = c.last.invariant.first in
    let second = c.last.invariant.second in
    record {
      first = omega (arith, first);
      second = omega (arith, second);
      same =
          go_on c.args.a.now c.args.b.now c.last.i c.last.j _ (omega (arith, some)) (omega (arith, any)) first second
          (sym c.choice_order.ensures ∙ c.in-Equal.is)
          ∙ c.last.invariant.same;
    }

pub returns-in_default : goal.returns-in_default
returns-in_default c =
    let some = c.if-i-eq0.false in
    let any = c.if-j-eq0.false in
    decides c.args.a.now c.args.b.now c.last.i c.last.j _ c.choice_order.result (omega (arith, some)) (omega (arith, any)) c.last.invariant.first c.last.invariant.second
    c.choice_order.ensures c.in_default.not-Equal
    ∙ c.last.invariant.same
