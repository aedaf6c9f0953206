use Rattle.std.proofs.Common.{◌≡◌, map, take}
use Rattle.mpy_tree.specs.View.{routine_of}
use Rattle.mpy_tree.specs.Shapes.{routine_shape}
use Rattle.choice_tree.specs.StatementViews.{weighted_func}
use Rattle.choice_tree.specs.WeightedTrees.{lifted}
use Rattle.tree_weights.proofs.lift_statements.lift.Given as goal

-- what was made is the functions so far
abbrev pub invariant-loop-func : goal.invariant-loop-func
invariant-loop-func l =
    map weighted_func l.items.items
    ≡ map (λ f. lifted (routine_shape (routine_of f))) (take l.func-index l.func-items)
