use Rattle.std.proofs.Common.{◌≡◌, ◌≤◌, length}
use Rattle.cost_levels.specs.Order.{selection_cmp}
use Rattle.cost_levels.proofs.Ordered.{fronts_cmp}
use Rattle.cost_levels.proofs.levels.order.Given as goal

-- the choices before these are left, and decide
abbrev pub invariant-last : goal.invariant-last
invariant-last l = record {
  first : l.i ≤ length l.a;
  second : l.j ≤ length l.b;
  same : fronts_cmp l.a l.i l.b l.j ≡ selection_cmp l.a l.b;
}

abbrev pub decreases-last : goal.decreases-last
decreases-last l = l.i
