use Rattle.std.proofs.Common.{◌≡◌, ◌∷◌, [], ◌++◌, ◌∙◌, ap, subst, refl, arith}
use Rattle.cost_levels.proofs.Numbered.{AreLast, last_first, last_more, last_right}
use Rattle.cost_levels.proofs.counting.Counts.push_end.Goals as goal

pub loop-cost-init : goal.loop-cost-init
loop-cost-init c = record {
  width = refl;
  some = omega arith;
  last =
      last_first c.push.new.self.items
      (c.in_ok-push.ensures.items ∙ ap (λ xs. xs ++ 1 ∷ []) c.requires.none);
}

pub loop-cost-preserved : goal.loop-cost-preserved
loop-cost-preserved c =
    let some = c.loop-cost.invariant.some in
    record {
      width = c.loop-cost.invariant.width;
      some = omega (arith, some);
      last =
          last_more c.loop-cost.self.numbers.items c.push-in-loop-cost.new.self.items
          c.loop-cost._cost some c.in_ok-push-2.ensures.items c.loop-cost.invariant.last;
    }

pub returns-clause-right : goal.returns-clause-right
returns-clause-right c = λ rows.
    let all = c.loop-cost-test.false in
    let within = c.loop-cost.auto._cost-end c.requires.wide in
    let width = c.loop-cost.invariant.width in
    let same : c.loop-cost._cost ≡ c.loop-cost.self.width = omega (arith, all, within, width) in
    last_right rows c.loop-cost.self
    (subst (AreLast c.loop-cost.self.numbers.items) same c.loop-cost.invariant.last)

pub returns-clause-many : goal.returns-clause-many
returns-clause-many c =
    let all = c.loop-cost-test.false in
    let within = c.loop-cost.auto._cost-end c.requires.wide in
    let width = c.loop-cost.invariant.width in
    let many = c.loop-cost.invariant.last.many in
    omega (arith, all, within, width, many)
