-- Inputs that are run at once, one in each lane of words of 64 bits.
use Rattle.std.specs.Prelude.{◌≡◌, ℕ, true, false, ◌<◌, ◌≤◌, List, length, map, Some, option_map}
use Rattle.std.specs.Prelude.{slice_get}
use Rattle.mpy_tree.specs.declared.value.Value.{Value}
use Rattle.mpy_tree.specs.Running.{evaluated}
use Rattle.bounds_reader.specs.declared.bounds.Bounds.{Bounds}
use Rattle.bit_lanes.specs.Lane.{IsTable, lane_bit, reads_table, truths_of_lane}
use Rattle.bit_lanes.specs.declared.lanes.Lanes.{Lanes}
use Rattle.sym_values.specs.declared.done.SymDone.{SymDone}
use Rattle.sym_values.specs.declared.value.SymValue.{SymValue}
use Rattle.sym_values.specs.Forms.{form_for}
use Rattle.sym_values.specs.Printed.{DoneReads, IsDoneIn}
use Rattle.sym_values.specs.Reading.{read, sure}
use Rattle.task_bits.specs.Tasks.{AreArgumentsOf}
use Rattle.test_picker.specs.declared.typed_list.Typed.{Typed}
use Rattle.test_picker.specs.declared.blocks.Block.{Block}
use Rattle.test_picker.specs.Programs.{gives_type, program_of}

-- an end with a value of the type of what the program gives, if it gives one
abbrev pub IsEndIn : {S B : Type 0} → (S → B → Type 0) → S → Bounds → Typed → SymDone B → Type 0
IsEndIn owns s b t d =
    IsDoneIn owns s b.limits (option_map (form_for b.limits) (gives_type b t)) d

-- the tables that belong to a state of lanes: all
abbrev pub Belongs : Lanes → ℕ → Type 0
Belongs s table = IsTable table

-- a table is true in this one of so many lanes, and in none before it
pub record IsFirstLane (table many lane : ℕ) : Type 0 where
  pub within : lane < many
  pub here : lane_bit table lane ≡ true
  pub before : (k : ℕ) → k < lane → lane_bit table k ≡ false

-- each of these inputs is read by the arguments in its lane
pub record ReadInLanes (xs : List (List Value)) (args : List (SymValue ℕ)) : Type 0 where
  pub few : length xs ≤ 64
  pub reads : (lane : ℕ) (x : List Value) → slice_get xs lane ≡ Some x
      → map (read (reads_table (truths_of_lane lane))) args ≡ map sure x

-- arguments of up to 64 inputs, and an end of the form of those of the reference
pub record IsBlock (b : Bounds) (r : Typed) (k : Block) : Type 0 where
  pub few : k.many ≤ 64
  pub args : (s : Lanes) → AreArgumentsOf Belongs s b k.args.items
  pub formed : (s : Lanes) → IsEndIn Belongs s b r k.wanted

-- the block of these inputs, with how the reference ends on them
pub record IsBlockOf (b : Bounds) (r : Typed) (xs : List (List Value)) (k : Block) : Type 0 where
  pub many : k.many ≡ length xs
  pub read : ReadInLanes xs k.args.items
  pub ends : (lane : ℕ) (x : List Value) → slice_get xs lane ≡ Some x
      → DoneReads b.limits (reads_table (truths_of_lane lane)) k.wanted
      (evaluated b.limits (program_of r) b.entry x)
