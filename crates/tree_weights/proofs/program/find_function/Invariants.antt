use Rattle.std.proofs.Common.{◌≡◌, drop, map}
use Rattle.choice_tree.specs.StatementViews.{weighted_func}
use Rattle.choice_tree.specs.WeightedViews.{weighteds}
use Rattle.tree_weights.specs.Functions.{function_from}
use Rattle.tree_weights.proofs.program.find_function.Given as goal

-- the function is not among those so far
abbrev pub invariant-loop-number : goal.invariant-loop-number
invariant-loop-number l =
    function_from (weighteds (map weighted_func l.funcs)) l.f 0
    ≡ function_from (weighteds (map weighted_func (drop l.number l.funcs))) l.f l.number
