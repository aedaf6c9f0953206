use Rattle.std.proofs.Common.{ℕ, suc, ◌-◌, length}
use Rattle.std.specs.List.{sum_by}
use Rattle.mpy_tree.specs.Shapes.{shape}
use Rattle.mpy_tree.specs.Trees.{Tree, tree_depth}
use Rattle.mpy_tree.specs.View.{term_of}
use Rattle.choice_tree.specs.Drafts.{draft_of}
use Rattle.eml_match.specs.Parts.{parts}
use Rattle.eml_rewrite.specs.LeastSizes.{draft_least}
use Rattle.eml_rewrite.proofs.LeastSizes.{IsFront}
use Rattle.eml_rewrite.proofs.least_size.+nodes_in.Given as goal

abbrev pub invariant-parts : goal.invariant-parts
invariant-parts l =
    let us = parts (shape (term_of l.fn.e)) in
    (least : Tree → ℕ) → IsFront (λ u. draft_least least (draft_of u)) us l.i l.nodes
    (suc (sum_by (λ u. draft_least least (draft_of u)) us))

abbrev pub decreases-parts : goal.decreases-parts
decreases-parts l = length (parts (shape (term_of l.fn.e))) - l.i

abbrev pub decreases-nodes_in : goal.decreases-nodes_in
decreases-nodes_in l = tree_depth (shape (term_of l.e.now))
