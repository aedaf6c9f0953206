use Rattle.std.proofs.Common.{◌≡◌, map, take}
use Rattle.mpy_tree.specs.View.{branch_of, statement_of}
use Rattle.mpy_tree.specs.Shapes.{arm_shape, statement_shape}
use Rattle.choice_tree.specs.Choices.{member_of}
use Rattle.choice_tree.specs.Selections.{plain}
use Rattle.choice_tree.specs.StatementViews.{weighted_arm, weighted_stmt}
use Rattle.choice_tree.proofs.statements.+plain_stmts.Given as goal

-- what was made is the plain statements so far
abbrev pub invariant-plain_stmts-loop-w : goal.invariant-plain_stmts-loop-w
invariant-plain_stmts-loop-w l =
    map (λ e. statement_shape (statement_of e)) l.made.items
    ≡ map (λ w. plain (member_of l.s) (weighted_stmt w)) (take l.w-index l.w-items)

-- and the plain arms so far
abbrev pub invariant-plain_arms-loop-arm : goal.invariant-plain_arms-loop-arm
invariant-plain_arms-loop-arm l =
    map (λ a. arm_shape (branch_of a)) l.items.items
    ≡ map (λ w. plain (member_of l.s) (weighted_arm w)) (take l.arm-index l.arm-items)
