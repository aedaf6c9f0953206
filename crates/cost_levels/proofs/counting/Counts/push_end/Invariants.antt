use Rattle.std.proofs.Common.{◌≡◌, ◌≤◌}
use Rattle.cost_levels.proofs.Numbered.{AreLast}
use Rattle.cost_levels.proofs.counting.Counts.push_end.Given as goal

-- the numbers at the costs so far
abbrev pub invariant-loop-cost : goal.invariant-loop-cost
invariant-loop-cost l = record {
  width : l.self.width ≡ l.fn.self.width;
  some : 1 ≤ l._cost;
  last : AreLast l.self.numbers.items l._cost;
}
