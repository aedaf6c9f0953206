use Rattle.std.proofs.Common.{map}
use Rattle.mpy_tree.specs.View.{block_of, branches_of}
use Rattle.mpy_tree.specs.Shapes.{statement_shapes}
use Rattle.mpy_tree.specs.Trees as kind
use Rattle.choice_tree.specs.Growing.{parts_grown}
use Rattle.choice_tree.specs.StatementViews.{weighted_arm, weighted_stmt}
use Rattle.choice_tree.specs.WeightedTrees.{no_weighted}
use Rattle.eml_rewrite.specs.Spots.{setting_at, context_at}
use Rattle.eml_rewrite.specs.Statements.{apart_in, arms_grown, fully_grown}
use Rattle.eml_rewrite.proofs.Appending.{FrontBuilt}
use Rattle.eml_rewrite.proofs.Trunks.{arm_tree, statement_tree}
use Rattle.eml_rewrite.proofs.statements.+grow_stmts.Given as goal

-- the statements in front are built
abbrev pub invariant-grow_stmts-loop-s : goal.invariant-grow_stmts-loop-s
invariant-grow_stmts-loop-s g l =
    let σ = setting_at l.fn.spot in
    let here = context_at l.fn.spot in
    FrontBuilt
    (parts_grown σ (fully_grown σ) (statement_shapes (block_of l.fn.b)) kind.Block 0 (apart_in
    here))
    (statement_tree σ here) l.s-items l.s-index (map weighted_stmt l.items.items)
    l.initial.counter l.counter

-- and the arms
abbrev pub invariant-grow_arms-loop-arm : goal.invariant-grow_arms-loop-arm
invariant-grow_arms-loop-arm g l =
    let σ = setting_at l.fn.spot in
    let here = context_at l.fn.spot in
    FrontBuilt (arms_grown σ here (branches_of l.fn.arms) no_weighted) (arm_tree σ here)
    l.arm-items l.arm-index (map weighted_arm l.items.items) l.initial.counter l.counter
