use Rattle.std.proofs.Common.{◌≡◌, ◌+◌, ◌≤◌, subst, sym, ap, arith}
use Rattle.choice_tree.specs.Heads.{head_kind}
use Rattle.choice_tree.specs.RuleViews.{template_of}
use Rattle.eml_match.specs.Parts.{template_parts}
use Rattle.eml_match.proofs.Places.{is_place}
use Rattle.eml_match.specs.Resolutions.{resolution}
use Rattle.eml_instances.specs.Resolving.{Gives, part_number, parts_resolved}
use Rattle.eml_instances.specs.Substitutions.{bindings_in, locals_in}
use Rattle.eml_rewrite.specs.LeastSizes.{draft_least}
use Rattle.eml_rewrite.proofs.Depths.{part_depth}
use Rattle.eml_rewrite.proofs.LeastSizes.{one_more, resolved_at, side_counted}
use Rattle.eml_rewrite.proofs.least_size.+count_side.Goals as goal

pub count_side-returns-in-Again : goal.count_side-returns-in-Again
count_side-returns-in-Again t c = λ least h.
    let side = c.args.side.now in
    let p = template_of side.term.now in
    let L = locals_in side.bound.now in
    let β = bindings_in side.bound.now in
    let given : Gives c.resolved.result p L β side.number = c.resolved.ensures in
    let is = subst (λ x. Gives x p L β side.number) c.in-Again.is given in
    subst (λ d. c.nodes_of.result ≤ draft_least least d) (sym is) (c.nodes_of.ensures least h)

pub count_side-returns-in-Node : goal.count_side-returns-in-Node
count_side-returns-in-Node t c = λ least h.
    let side = c.args.side.now in
    let p = template_of side.term.now in
    let L = locals_in side.bound.now in
    let β = bindings_in side.bound.now in
    let given : Gives c.resolved.result p L β side.number = c.resolved.ensures in
    let is = subst (λ x. Gives x p L β side.number) c.in-Node.is given in
    side_counted least (head_kind c.in-Node.field-0) (template_parts p) L β
    (λ i. part_number p L β i side.number) (resolution p L β side.number)
    c.count_side_parts.result is.0 is.1 (c.count_side_parts.ensures least h)

pub count_side_parts-count_side-requires : goal.count_side_parts-count_side-requires
count_side_parts-count_side-requires t c =
    let p = template_of c.args.side.now.term.now in
    let q = template_of c.in-Some.term.now in
    let less = part_depth p q c.parts.i c.in-Some.ensures.part in (
      omega (arith, less),
      record {
        below = c.part_number.ensures.below q (sym c.in-Some.ensures.part);
        small = c.part_number.ensures.near;
        deep = omega arith;
      },
    )

pub count_side_parts-parts-smaller : goal.count_side_parts-parts-smaller
count_side_parts-parts-smaller t c =
    let below =
    is_place (template_parts (template_of c.args.side.now.term.now)) c.parts.i
    (template_of c.in-Some.term.now) c.in-Some.ensures.part in
    omega (arith, below)

pub count_side_parts-parts-preserved : goal.count_side_parts-parts-preserved
count_side_parts-parts-preserved t c = λ least h.
    let side = c.args.side.now in
    let p = template_of side.term.now in
    let L = locals_in side.bound.now in
    let β = bindings_in side.bound.now in
    let q = template_of c.in-Some.term.now in
    let ds = parts_resolved p L β side.number in
    let at =
    resolved_at (template_parts p) L β (λ i. part_number p L β i side.number) c.parts.i 0
    c.parts.i q (omega arith) c.in-Some.ensures.part in
    let same : resolution q L β c.part_number.result
    ≡ resolution q L β (part_number p L β c.parts.i side.number) =
    ap (resolution q L β) c.part_number.ensures.number in
    one_more (draft_least least) ds c.parts.i (c.parts.i + 1)
    (resolution q L β (part_number p L β c.parts.i side.number)) c.parts.nodes
    c.count_side.result c.saturating_add-nodes.result _ (omega arith) at
    (subst (λ d. c.count_side.result ≤ draft_least least d) same (c.count_side.ensures least h))
    (omega arith) (c.parts.invariant least h)
