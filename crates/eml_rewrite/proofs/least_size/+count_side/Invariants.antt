use Rattle.std.proofs.Common.{ℕ, suc, ◌+◌, ◌-◌, ◌*◌, length}
use Rattle.std.specs.List.{sum_by}
use Rattle.mpy_tree.specs.Trees.{Tree}
use Rattle.choice_tree.specs.RuleViews.{template_of}
use Rattle.eml_match.specs.Parts.{template_parts}
use Rattle.eml_match.specs.Resolutions.{depth}
use Rattle.eml_instances.specs.Resolving.{parts_resolved}
use Rattle.eml_instances.specs.Substitutions.{bindings_in, locals_in}
use Rattle.eml_rewrite.specs.LeastSizes.{AreCounted, draft_least}
use Rattle.eml_rewrite.proofs.LeastSizes.{IsFront}
use Rattle.eml_rewrite.proofs.least_size.+count_side.Given as goal

abbrev pub invariant-count_side_parts-parts : goal.invariant-count_side_parts-parts
invariant-count_side_parts-parts l =
    let side = l.fn.side in
    let ds =
    parts_resolved (template_of side.term.now) (locals_in side.bound.now)
    (bindings_in side.bound.now) side.number in
    (least : Tree → ℕ) → AreCounted least l.fn.counted
    → IsFront (draft_least least) ds l.i l.nodes (suc (sum_by (draft_least least) ds))

abbrev pub decreases-count_side_parts-parts : goal.decreases-count_side_parts-parts
decreases-count_side_parts-parts l =
    length (template_parts (template_of l.fn.side.term.now)) - l.i

abbrev pub decreases-count_side : goal.decreases-count_side
decreases-count_side l = 2 * depth (template_of l.side.now.term.now) + 1

abbrev pub decreases-count_side_parts : goal.decreases-count_side_parts
decreases-count_side_parts l = 2 * depth (template_of l.side.now.term.now)
