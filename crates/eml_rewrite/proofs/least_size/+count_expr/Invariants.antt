use Rattle.std.proofs.Common.{◌≤◌, ◌+◌, ◌-◌, ◌*◌, length}
use Rattle.mpy_tree.specs.View.{term_of}
use Rattle.mpy_tree.specs.Shapes.{shape}
use Rattle.mpy_tree.specs.Trees.{tree_depth}
use Rattle.eml_match.specs.Parts.{parts}
use Rattle.eml_rewrite.specs.LeastSizes.{AreCounted, kept_least, least_size}
use Rattle.eml_rewrite.specs.Spots.{context_at, setting_at}
use Rattle.eml_rewrite.proofs.LeastSizes.{IsFront}
use Rattle.eml_rewrite.proofs.least_size.+count_expr.Given as goal

abbrev pub invariant-count_parts-parts : goal.invariant-count_parts-parts
invariant-count_parts-parts g l =
    let least = least_size (setting_at l.fn.spot) (context_at l.fn.spot).scope in
    let t = shape (term_of l.fn.e) in
    record {
      front : IsFront least (parts t) l.i l.nodes (kept_least least t);
      some : 1 ≤ l.nodes;
      counted : AreCounted least l.counted.items;
    }

abbrev pub decreases-count_parts-parts : goal.decreases-count_parts-parts
decreases-count_parts-parts g l = length (parts (shape (term_of l.fn.e))) - l.i

abbrev pub decreases-count_expr : goal.decreases-count_expr
decreases-count_expr g l = 3 * tree_depth (shape (term_of l.e.now)) + 2

abbrev pub decreases-count_node : goal.decreases-count_node
decreases-count_node g l = 3 * tree_depth (shape (term_of l.e.now)) + 1

abbrev pub decreases-count_parts : goal.decreases-count_parts
decreases-count_parts g l = 3 * tree_depth (shape (term_of l.e.now))
