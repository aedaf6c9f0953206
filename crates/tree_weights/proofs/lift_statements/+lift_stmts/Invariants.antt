use Rattle.std.proofs.Common.{◌≡◌, map, take}
use Rattle.mpy_tree.specs.View.{branch_of, statement_of}
use Rattle.mpy_tree.specs.Shapes.{arm_shape, statement_shape}
use Rattle.choice_tree.specs.StatementViews.{weighted_arm, weighted_stmt}
use Rattle.choice_tree.specs.WeightedTrees.{lifted}
use Rattle.tree_weights.proofs.lift_statements.+lift_stmts.Given as goal

-- what was made is the statements so far
abbrev pub invariant-lift_stmts-loop-s : goal.invariant-lift_stmts-loop-s
invariant-lift_stmts-loop-s l =
    map weighted_stmt l.items.items
    ≡ map (λ s. lifted (statement_shape (statement_of s))) (take l.s-index l.s-items)

-- and the arms so far
abbrev pub invariant-lift_arms-loop-arm : goal.invariant-lift_arms-loop-arm
invariant-lift_arms-loop-arm l =
    map weighted_arm l.items.items
    ≡ map (λ a. lifted (arm_shape (branch_of a))) (take l.arm-index l.arm-items)
