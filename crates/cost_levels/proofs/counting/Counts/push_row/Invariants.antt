use Rattle.std.proofs.Common.{◌≡◌, ℕ, suc, ◌+◌, ◌*◌, List, Some, length, slice_get}
use Rattle.cost_levels.specs.declared.rows.Row.{Row}
use Rattle.cost_levels.specs.Counts.{CountsSoFar}
use Rattle.cost_levels.proofs.counting.Counts.push_row.Given as goal

-- the numbers at the costs so far
abbrev pub invariant-loop-cost : goal.invariant-loop-cost
invariant-loop-cost l = record {
  width : l.self.width ≡ l.fn.self.width;
  many : length l.self.numbers.items ≡ length l.fn.self.numbers.items + l.cost;
  right : (rows : List Row) (place : ℕ) → slice_get rows place ≡ Some l.row
      → length l.fn.self.numbers.items ≡ suc place * l.fn.self.width
      → CountsSoFar rows l.fn.self → CountsSoFar rows l.self;
}
