use Rattle.std.proofs.Common.{◌+◌, ◌++◌, [], ◌∷◌}
use Rattle.std.proofs.Common.{arith, ap, sym, ◌∙◌}
use Rattle.std.proofs.Common.{drop, map}
use Rattle.std.specs.List.{flat_map}
use Rattle.std.proofs.lemmas.List.{append-nil, map-append}
use Rattle.choice_tree.specs.RuleViews.{template_of}
use Rattle.eml_match.specs.Parts.{template_seen}
use Rattle.eml_faults.specs.Sides.{nodes, side_parts}
use Rattle.eml_match.proofs.Places.{is_place}
use Rattle.eml_faults.proofs.Walks.{nodes_by_parts, nodes_next, part_smaller, rest_at}
use Rattle.eml_faults.proofs.Walks.{rest_end}
use Rattle.eml_faults.proofs.nodes.+with_nodes.Goals as goal

pub parts-init : goal.parts-init
parts-init t c =
    let p = template_of c.args.e.now in
    let found = map template_seen c.args.found.items in
    nodes_next (found ++ nodes p) found (map template_seen c.push.new.self.items) (p ∷ [])
    (flat_map nodes (side_parts p))
    (ap (map template_seen) c.in_ok-push.ensures.items
    ∙ map-append template_seen c.args.found.items (c.args.e ∷ []))
    (ap (λ ns. found ++ ns) (nodes_by_parts p))

pub returns-in-None : goal.returns-in-None
returns-in-None t c =
    let all = map template_seen c.parts.all.items in
    sym (c.parts.invariant
    ∙ ap (λ qs. all ++ flat_map nodes qs)
    (rest_end (side_parts (template_of c.args.e.now)) c.parts.i c.in-None.ensures.part)
    ∙ append-nil all)

pub with_nodes-requires : goal.with_nodes-requires
with_nodes-requires t c =
    let less =
    part_smaller (template_of c.args.e.now) (template_of c.in-Some.part.now) c.parts.i
    c.in-Some.ensures.part in
    (omega (arith, less), tt)

pub parts-smaller : goal.parts-smaller
parts-smaller t c =
    let below =
    is_place (side_parts (template_of c.args.e.now)) c.parts.i
    (template_of c.in-Some.part.now) c.in-Some.ensures.part in
    omega (arith, below)

pub parts-preserved : goal.parts-preserved
parts-preserved t c =
    let p = template_of c.args.e.now in
    let q = template_of c.in-Some.part.now in
    let all = map template_seen c.parts.all.items in
    nodes_next (map template_seen c.args.found.items ++ nodes p) all
    (map template_seen c.in_ok-all-in-Some.all.items) (nodes q)
    (flat_map nodes (drop (c.parts.i + 1) (side_parts p))) c.in_ok-all-in-Some.ensures
    (c.parts.invariant
    ∙ ap (λ qs. all ++ flat_map nodes qs) (rest_at (side_parts p) c.parts.i (c.parts.i + 1) q
    (omega arith) c.in-Some.ensures.part))
