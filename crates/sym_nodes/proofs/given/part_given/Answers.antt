use Rattle.std.proofs.Common.{subst}
use Rattle.std.specs.declared.result.Result.{Result}
use Rattle.mpy_tree.specs.declared.outcome.Halt.{Halt}
use Rattle.mpy_tree.specs.declared.value.Value.{Value}
use Rattle.mpy_tree.specs.Values.{on_line}
use Rattle.value_operations.specs.Answers.{Meets}
use Rattle.sym_nodes.proofs.Parting.{sliced_by}
use Rattle.sym_nodes.proofs.given.part_given.Goals as goal

pub returns : goal.returns
returns c =
    let vs = c.args.values.now in
    subst (λ (r : Result Value Halt). Meets c.part_between.result (on_line 0 r))
    (sliced_by c.args.from c.args.to vs c.index-values-0.result c.in_ok-low.low c.in_ok-high.high
    c.requires c.index-values-0.is c.in_ok-low.ensures c.in_ok-high.ensures) c.part_between.ensures
