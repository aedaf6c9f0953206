use Rattle.std.proofs.Common.{◌≡◌, ◌<◌, ℕ, length, Some, slice_get}
use Rattle.mpy_tree.specs.declared.value.Value.{Value}
use Rattle.bit_lanes.specs.Columns.{item_of, value_in}
use Rattle.bit_lanes.proofs.columns.items.Given as goal

abbrev pub invariant-loop-lane : goal.invariant-loop-lane
invariant-loop-lane l = record {
  many : length l.column ≡ 64;
  each : (k : ℕ) (v : Value) → k < l.lane → value_in l.cases l.place k ≡ Some v
      → slice_get l.column k ≡ Some ((item_of l.index) v);
}
