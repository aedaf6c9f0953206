use Rattle.std.proofs.Common.{◌≡◌, suc, ◌*◌, length}
use Rattle.cost_levels.specs.Counts.{CountsSoFar}
use Rattle.cost_levels.proofs.counting.Counts.of.Given as goal

-- the numbers of the rows so far
abbrev pub invariant-loop-row : goal.invariant-loop-row
invariant-loop-row l = record {
  width : l.counts.width ≡ suc l.fn.cost;
  many : length l.counts.numbers.items ≡ suc l.row-index * l.counts.width;
  right : CountsSoFar l.fn.rows l.counts;
}
