use Rattle.std.proofs.Common.{◌+◌, ◌-◌, ◌*◌, length, map}
use Rattle.mpy_tree.specs.View.{term_of}
use Rattle.mpy_tree.specs.Shapes.{shape}
use Rattle.choice_tree.specs.Contexts.{inside}
use Rattle.choice_tree.specs.Growing.{grown}
use Rattle.choice_tree.specs.Heads.{head_kind}
use Rattle.choice_tree.specs.RuleViews.{corrections_of, template_of}
use Rattle.choice_tree.specs.WeightedViews.{weighted_of, member_seen}
use Rattle.eml_match.specs.Parts.{parts, template_parts}
use Rattle.eml_match.specs.Resolutions.{depth}
use Rattle.eml_instances.specs.Alternatives.{alternative_seen}
use Rattle.eml_instances.specs.Resolving.{part_number}
use Rattle.eml_instances.specs.Substitutions.{bindings_in, locals_in}
use Rattle.eml_rewrite.specs.Parts.{kept_parts, draft_parts_grown}
use Rattle.eml_rewrite.specs.Sides.{deepest, draft_at}
use Rattle.eml_rewrite.specs.Spots.{setting_at, context_at}
use Rattle.eml_rewrite.proofs.Appending.{FrontBuilt}
use Rattle.eml_rewrite.proofs.Depths.{reach}
use Rattle.eml_rewrite.proofs.Members.{FrontMembers}
use Rattle.eml_rewrite.proofs.Nodes.{kept_part, side_part}
use Rattle.eml_rewrite.proofs.grow.+grow.Given as goal

-- the parts in front are built
abbrev pub invariant-grow_parts-parts : goal.invariant-grow_parts-parts
invariant-grow_parts-parts g l =
    let σ = setting_at l.fn.spot in
    let here = context_at l.fn.spot in
    let t = shape (term_of l.fn.e) in
    FrontBuilt (kept_parts σ (grown σ l.fn.spot.steps) here t)
    (kept_part σ (grown σ l.fn.spot.steps) here t) (parts t) l.i (map weighted_of l.made.items)
    l.initial.counter l.counter

abbrev pub invariant-grow_side_parts-parts : goal.invariant-grow_side_parts-parts
invariant-grow_side_parts-parts g l =
    let σ = setting_at l.fn.spot in
    let here = context_at l.fn.spot in
    let p = template_of l.fn.side.term.now in
    let L = locals_in l.fn.side.bound.now in
    let β = bindings_in l.fn.side.bound.now in
    FrontBuilt (draft_parts_grown σ (grown σ l.fn.spot.steps) here (draft_at l.fn.side))
    (side_part σ (grown σ l.fn.spot.steps) here (head_kind l.fn.head) L β
    (λ i. part_number p L β i l.fn.side.number)) (template_parts p) l.i
    (map weighted_of l.made.items) l.initial.counter l.counter

-- and the members
abbrev pub invariant-grow_members-loop-a : goal.invariant-grow_members-loop-a
invariant-grow_members-loop-a g l =
    let σ = setting_at l.fn.spot in
    FrontMembers σ (grown σ l.fn.spot.steps) (inside (context_at l.fn.spot))
    (alternative_seen (context_at l.fn.spot).scope) l.fn.found l.a-index
    (map member_seen l.items.items) l.initial.counter l.counter

abbrev pub decreases-grow_parts-parts : goal.decreases-grow_parts-parts
decreases-grow_parts-parts g l = length (parts (shape (term_of l.fn.e))) - l.i

abbrev pub decreases-grow_side_parts-parts : goal.decreases-grow_side_parts-parts
decreases-grow_side_parts-parts g l =
    length (template_parts (template_of l.fn.side.term.now)) - l.i

abbrev pub decreases-grow : goal.decreases-grow
decreases-grow g l = reach (corrections_of l.spot.now.rules.now) l.spot.now.steps

abbrev pub decreases-grow_name : goal.decreases-grow_name
decreases-grow_name g l = reach (corrections_of l.spot.now.rules.now) l.spot.now.steps + 1

abbrev pub decreases-grow_parts : goal.decreases-grow_parts
decreases-grow_parts g l = reach (corrections_of l.spot.now.rules.now) l.spot.now.steps + 1

abbrev pub decreases-grow_kept : goal.decreases-grow_kept
decreases-grow_kept g l = reach (corrections_of l.spot.now.rules.now) l.spot.now.steps + 2

abbrev pub decreases-grow_base : goal.decreases-grow_base
decreases-grow_base g l = reach (corrections_of l.spot.now.rules.now) l.spot.now.steps + 3

abbrev pub decreases-grow_side_parts : goal.decreases-grow_side_parts
decreases-grow_side_parts g l =
    reach (corrections_of l.spot.now.rules.now) l.spot.now.steps
    + (3 * depth (template_of l.side.now.term.now) + 2)

abbrev pub decreases-grow_node : goal.decreases-grow_node
decreases-grow_node g l =
    reach (corrections_of l.spot.now.rules.now) l.spot.now.steps
    + (3 * depth (template_of l.side.now.term.now) + 3)

abbrev pub decreases-grow_side : goal.decreases-grow_side
decreases-grow_side g l =
    reach (corrections_of l.spot.now.rules.now) l.spot.now.steps
    + (3 * depth (template_of l.side.now.term.now) + 4)

abbrev pub decreases-grow_member : goal.decreases-grow_member
decreases-grow_member g l =
    reach (corrections_of l.spot.now.rules.now) l.spot.now.steps
    + (3 * deepest (corrections_of l.spot.now.rules.now) + 5)

abbrev pub decreases-grow_members : goal.decreases-grow_members
decreases-grow_members g l =
    reach (corrections_of l.spot.now.rules.now) l.spot.now.steps
    + (3 * deepest (corrections_of l.spot.now.rules.now) + 6)

abbrev pub decreases-grow_pick : goal.decreases-grow_pick
decreases-grow_pick g l =
    reach (corrections_of l.spot.now.rules.now) l.spot.now.steps
    + (3 * deepest (corrections_of l.spot.now.rules.now) + 7)
