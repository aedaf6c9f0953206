-- what the values of the lanes are
use Rattle.bit_lanes.specs.LaneCases.{first_types}
use Rattle.test_picker.proofs.BlockLaws.{arguments_made, fill, read_in_lanes, types_are}
use Rattle.test_picker.proofs.blocks.Setting.arguments.Goals as goal

pub lane_values-requires : goal.lane_values-requires
lane_values-requires c =
    fill c.inputs_fit.ensures c.args.self.now.bounds.now c.args.cases.now c.requires.some
    c.requires.few c.requires.inputs

pub returns-clause-made : goal.returns-clause-made
returns-clause-made c =
    let b = c.args.self.now.bounds.now in
    let cs = c.args.cases.now in
    arguments_made b c.in_ok-args.args.items (first_types cs) c.in_ok-args.ensures.made
    (types_are c.inputs_fit.ensures b cs c.requires.some c.requires.inputs)

pub returns-clause-read : goal.returns-clause-read
returns-clause-read c =
    read_in_lanes c.lanes_are_numbers.ensures c.args.cases.now c.in_ok-args.args.items
    c.requires.few c.in_ok-args.ensures.value
