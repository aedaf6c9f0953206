-- the inputs of the block, their values, and how the reference ends on them
use Rattle.std.proofs.Common.{◌∙◌, ap, drop, length, subst, sym, take}
use Rattle.std.proofs.lemmas.List.{length-map}
use Rattle.input_space.specs.declared.case.Case.{Case}
use Rattle.input_space.specs.Inputs.{inputs}
use Rattle.bit_lanes.specs.Lane.{truths_of_lane}
use Rattle.test_picker.specs.LaneInputs.{ReadInLanes}
use Rattle.test_picker.proofs.BlockLaws.{block_inputs, block_is_few}
use Rattle.test_picker.proofs.blocks.Setting.block_from.Goals as goal

pub arguments-requires-clause-few : goal.arguments-requires-clause-few
arguments-requires-clause-few c =
    block_is_few (inputs c.args.self.now.bounds.now.params) c.args.first c.in_ok-cases.cases
    c.in_ok-cases.ensures

pub arguments-requires-clause-inputs : goal.arguments-requires-clause-inputs
arguments-requires-clause-inputs c =
    block_inputs c.args.self.now.bounds.now c.args.first c.in_ok-cases.cases c.in_ok-cases.ensures

pub run-requires-clause-args : goal.run-requires-clause-args
run-requires-clause-args c = c.in_ok-args.ensures.made c.new-lanes.result

pub returns-clause-inputs : goal.returns-clause-inputs
returns-clause-inputs c =
    let xs = inputs c.args.self.now.bounds.now.params in
    let is = c.in_ok-cases.ensures in
    let read : ReadInLanes (take 64 (drop c.args.first xs)) c.in_ok-args.args.items =
    subst (λ ys. ReadInLanes ys c.in_ok-args.args.items) is c.in_ok-args.ensures.read in
    record {
      many = c.count.ensures.value ∙ sym (length-map c.in_ok-cases.cases (λ (d : Case). d.values))
          ∙ ap length is;
      read = read;
      ends = λ lane x at. c.in_ok-wanted.ensures.value (truths_of_lane lane) x (read.reads lane x at);
    }
