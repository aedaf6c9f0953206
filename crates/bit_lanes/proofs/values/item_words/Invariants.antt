use Rattle.std.proofs.Common.{◌≡◌, Bool, List, Some, map}
use Rattle.std.specs.Prelude.{replicate}
use Rattle.mpy_tree.specs.declared.value.Value.{Value}
use Rattle.sym_values.specs.Results.{AreWordsIn}
use Rattle.bit_lanes.specs.declared.lanes.Lanes.{Lanes}
use Rattle.bit_lanes.specs.Columns.{value_in}
use Rattle.bit_lanes.specs.Digits.{items_digits}
use Rattle.bit_lanes.specs.Lane.{lane_of, reads_table}
use Rattle.bit_lanes.specs.LaneCases.{Owns}
use Rattle.bit_lanes.proofs.values.item_words.Given as goal

abbrev pub invariant-loop-index : goal.invariant-loop-index
invariant-loop-index l = record {
  made : (s : Lanes) → AreWordsIn Owns s (replicate l.index l.width) l.words;
  value : (vs : List Bool) (v : Value) → value_in l.cases l.place (lane_of 6 vs) ≡ Some v
      → map (map (reads_table vs)) l.words ≡ items_digits l.index l.width v;
}
