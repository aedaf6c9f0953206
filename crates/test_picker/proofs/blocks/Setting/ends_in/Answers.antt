-- the lanes in which the reference has no fault
use Rattle.std.proofs.Common.{◌≡◌, ◌∙◌, ◌<◌, ℕ, List, Some, arith, length, subst, sym}
use Rattle.std.specs.Prelude.{MatchOption, slice_get, false}
use Rattle.std.proofs.lemmas.Option.{slice_get_within}
use Rattle.mpy_tree.specs.declared.value.Value.{Value}
use Rattle.mpy_tree.specs.Running.{evaluated}
use Rattle.bit_lanes.specs.Lane.{lane_bit, reads_table, truths_of_lane}
use Rattle.test_picker.specs.LaneInputs.{IsFirstLane}
use Rattle.test_picker.specs.Programs.{program_of}
use Rattle.task_bits.proofs.Endings.{done_reads}
use Rattle.test_picker.proofs.LaneFacts.{ends_if, in_lane}
use Rattle.test_picker.proofs.blocks.Setting.ends_in.Goals as goal

pub returns : goal.returns
returns c xs block =
    let b = c.args.self.now.bounds.now in
    let r = program_of c.args.self.now.reference.now.typed.now in
    let table = c.not-ended.result in
    let below = λ (lane : ℕ) (x : List Value) (at : slice_get xs lane ≡ Some x).
    (let within : lane < length xs = slice_get_within xs lane x at in
    let small : lane < 64 = omega (arith, within, block.read.few) in small) in
    let tells = λ (lane : ℕ) (x : List Value) (at : slice_get xs lane ≡ Some x).
    sym (in_lane c.lanes_are_numbers.ensures table lane (below lane x at))
    ∙ c.not-ended.ensures.value (truths_of_lane lane)
    ∙ done_reads b.limits (reads_table (truths_of_lane lane)) c.args.block.now.wanted
    (evaluated b.limits r b.entry x) (block.ends lane x at) in
    let first = subst (λ n. MatchOption c.first_lane.result
    ((lane : ℕ) → lane < n → lane_bit table lane ≡ false) (IsFirstLane table n)) block.many
    c.first_lane.ensures in
    c.is_some.ensures ∙ ends_if b r xs table tells c.first_lane.result first
