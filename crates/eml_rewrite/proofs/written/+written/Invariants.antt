use Rattle.std.proofs.Common.{◌+◌, ◌-◌, ◌*◌, length, map}
use Rattle.mpy_tree.specs.View.{term_of}
use Rattle.mpy_tree.specs.Shapes.{shape}
use Rattle.mpy_tree.specs.Trees.{tree_depth}
use Rattle.choice_tree.specs.WeightedViews.{weighted_of}
use Rattle.eml_match.specs.Parts.{parts}
use Rattle.eml_rewrite.specs.Parts.{written_parts}
use Rattle.eml_rewrite.specs.Spots.{setting_at, context_at}
use Rattle.eml_rewrite.proofs.Appending.{FrontBuilt}
use Rattle.eml_rewrite.proofs.Nodes.{written_part}
use Rattle.eml_rewrite.proofs.written.+written.Given as goal

-- the parts in front are built
abbrev pub invariant-write_parts-parts : goal.invariant-write_parts-parts
invariant-write_parts-parts g l =
    let t = shape (term_of l.fn.e) in
    FrontBuilt (written_parts (setting_at l.fn.spot) (context_at l.fn.spot) t)
    (written_part (setting_at l.fn.spot) (context_at l.fn.spot) t) (parts t) l.i
    (map weighted_of l.made.items) l.initial.counter l.counter

abbrev pub decreases-write_parts-parts : goal.decreases-write_parts-parts
decreases-write_parts-parts g l = length (parts (shape (term_of l.fn.e))) - l.i

abbrev pub decreases-write_expr : goal.decreases-write_expr
decreases-write_expr g l = 2 * tree_depth (shape (term_of l.e.now)) + 1

abbrev pub decreases-write_parts : goal.decreases-write_parts
decreases-write_parts g l = 2 * tree_depth (shape (term_of l.e.now))
