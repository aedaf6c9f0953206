use Rattle.std.proofs.Common.{◌≡◌, map, take}
use Rattle.mpy_tree.specs.View.{routine_of}
use Rattle.mpy_tree.specs.Shapes.{routine_shape}
use Rattle.choice_tree.specs.Choices.{member_of}
use Rattle.choice_tree.specs.Selections.{plain}
use Rattle.choice_tree.specs.StatementViews.{weighted_func}
use Rattle.choice_tree.proofs.statements.plain.Given as goal

-- what was made is the plain functions so far
abbrev pub invariant-loop-func : goal.invariant-loop-func
invariant-loop-func l =
    map (λ f. routine_shape (routine_of f)) l.items.items
    ≡ map (λ w. plain (member_of l.s) (weighted_func w)) (take l.func-index l.func-items)
