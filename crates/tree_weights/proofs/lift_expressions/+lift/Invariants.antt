use Rattle.std.proofs.Common.{◌≡◌, ◌+◌, ◌-◌, ◌*◌, ◌++◌, map, drop, length}
use Rattle.mpy_tree.specs.View.{term_of}
use Rattle.mpy_tree.specs.Shapes.{shape}
use Rattle.mpy_tree.specs.Trees.{tree_depth}
use Rattle.choice_tree.specs.WeightedTrees.{lifted}
use Rattle.choice_tree.specs.WeightedViews.{weighted_of}
use Rattle.eml_match.specs.Parts.{parts}
use Rattle.tree_weights.proofs.lift_expressions.+lift.Given as goal

-- what was made, and the parts that are left
abbrev pub invariant-lift_parts-parts : goal.invariant-lift_parts-parts
invariant-lift_parts-parts l =
    let ts = parts (shape (term_of l.fn.e)) in
    map lifted ts ≡ map weighted_of l.made.items ++ map lifted (drop l.i ts)

abbrev pub decreases-lift_parts-parts : goal.decreases-lift_parts-parts
decreases-lift_parts-parts l = length (parts (shape (term_of l.fn.e))) - l.i

abbrev pub decreases-lift_expr : goal.decreases-lift_expr
decreases-lift_expr l = 2 * tree_depth (shape (term_of l.e.now)) + 1

abbrev pub decreases-lift_parts : goal.decreases-lift_parts
decreases-lift_parts l = 2 * tree_depth (shape (term_of l.e.now))
