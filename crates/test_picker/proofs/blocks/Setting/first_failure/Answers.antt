-- the program and the reference compared in each lane
use Rattle.std.proofs.Common.{◌≡◌, ◌<◌, ℕ, List, Option, Some, arith, length, option_map, subst}
use Rattle.std.specs.Prelude.{MatchOption, slice_get, false}
use Rattle.std.proofs.lemmas.Option.{slice_get_within}
use Rattle.mpy_tree.specs.declared.typing.Ty.{Ty}
use Rattle.mpy_tree.specs.declared.value.Value.{Value}
use Rattle.mpy_tree.specs.Running.{evaluated}
use Rattle.bit_lanes.specs.Lane.{lane_bit, truths_of_lane}
use Rattle.input_space.specs.Agreement.{ends_on}
use Rattle.sym_values.specs.Forms.{form_for}
use Rattle.sym_values.specs.Printed.{IsDoneIn}
use Rattle.test_picker.specs.Comparing.{TellsFailure}
use Rattle.test_picker.specs.LaneInputs.{Belongs, IsFirstLane}
use Rattle.test_picker.specs.Programs.{gives_type, program_of}
use Rattle.test_picker.proofs.LaneFacts.{failure_in, in_lane}
use Rattle.test_picker.proofs.blocks.Setting.first_failure.Goals as goal

pub run-requires-clause-args : goal.run-requires-clause-args
run-requires-clause-args c = c.requires.block.args c.new-lanes.result

pub fails-requires : goal.fails-requires
fails-requires c =
    let b = c.args.self.now.bounds.now in
    let r = c.args.self.now.reference.now.typed.now in
    let given = subst (λ (t : Option Ty). IsDoneIn Belongs c.run.new.g b.limits (option_map (form_for b.limits) t) c.in_ok-given.given)
    c.requires.one_type c.in_ok-given.ensures.made in
    record { formed = (gives_type b r, c.requires.block.formed c.run.new.g, given) }

pub returns : goal.returns
returns c xs block =
    let b = c.args.self.now.bounds.now in
    let r = program_of c.args.self.now.reference.now.typed.now in
    let p = program_of c.args.program.now.typed.now in
    let table = c.in_ok-failing.failing in
    let below = λ (lane : ℕ) (x : List Value) (at : slice_get xs lane ≡ Some x).
    (let within : lane < length xs = slice_get_within xs lane x at in
    let small : lane < 64 = omega (arith, within, block.read.few) in small) in
    let tells = λ (lane : ℕ) (x : List Value) (at : slice_get xs lane ≡ Some x).
    subst (λ t. TellsFailure t (ends_on b r x) (ends_on b p x))
    (in_lane c.lanes_are_numbers.ensures table lane (below lane x at))
    (c.in_ok-failing.ensures.value (truths_of_lane lane) (evaluated b.limits r b.entry x)
    (evaluated b.limits p b.entry x) (block.ends lane x at)
    (c.in_ok-given.ensures.value (truths_of_lane lane) x (block.read.reads lane x at))) in
    let first = subst (λ n. MatchOption c.first_lane.result
    ((lane : ℕ) → lane < n → lane_bit table lane ≡ false) (IsFirstLane table n)) block.many
    c.first_lane.ensures in
    failure_in b r p xs table tells c.first_lane.result first
