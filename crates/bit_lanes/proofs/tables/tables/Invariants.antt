use Rattle.std.proofs.Common.{◌≡◌, ℕ, Bool, List, All, length, map, Some, slice_get}
use Rattle.bit_lanes.specs.Digits.{digits_of}
use Rattle.bit_lanes.specs.Lane.{IsTable, lane_of, reads_table}
use Rattle.bit_lanes.proofs.tables.tables.Given as goal

abbrev pub invariant-loop-digit : goal.invariant-loop-digit
invariant-loop-digit l = record {
  owned : All IsTable l.all.items;
  width : length l.all.items ≡ l.digit;
  value : (vs : List Bool) (number : ℕ) → slice_get l.column (lane_of 6 vs) ≡ Some number
      → map (reads_table vs) l.all.items ≡ digits_of l.digit number;
}
