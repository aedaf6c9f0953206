use Rattle.std.proofs.Common.{◌+◌, ◌||◌}
use Rattle.std.proofs.Common.{arith, ap, sym, ◌∙◌}
use Rattle.std.proofs.Common.{drop}
use Rattle.std.specs.List.{list_any}
use Rattle.choice_tree.specs.RuleViews.{template_of}
use Rattle.eml_faults.specs.Sides.{side_parts}
use Rattle.eml_match.proofs.Places.{is_place}
use Rattle.eml_faults.proofs.Walks.{has_long_in, long_by_parts, part_smaller, rest_at}
use Rattle.eml_faults.proofs.Walks.{rest_end}
use Rattle.eml_faults.proofs.nodes.+has_long.Goals as goal

pub parts-init : goal.parts-init
parts-init t c =
    let p = template_of c.args.e.now in
    long_by_parts p
    ∙ ap (λ b. b || list_any has_long_in (side_parts p))
    (sym c.is_long_node.ensures ∙ c.if-is_long_node.false)

pub returns-in-None : goal.returns-in-None
returns-in-None t c =
    sym (c.parts.invariant
    ∙ ap (list_any has_long_in) (rest_end (side_parts (template_of c.args.e.now)) c.parts.i
    c.in-None.ensures.part))

pub has_long-requires : goal.has_long-requires
has_long-requires t c =
    let less =
    part_smaller (template_of c.args.e.now) (template_of c.in-Some.part.now) c.parts.i
    c.in-Some.ensures.part in
    (omega (arith, less), tt)

pub returns-then-has_long : goal.returns-then-has_long
returns-then-has_long t c =
    let ps = side_parts (template_of c.args.e.now) in
    sym (c.parts.invariant
    ∙ ap (list_any has_long_in) (rest_at ps c.parts.i (c.parts.i + 1)
    (template_of c.in-Some.part.now) (omega arith) c.in-Some.ensures.part)
    ∙ ap (λ b. b || list_any has_long_in (drop (c.parts.i + 1) ps))
    (sym c.has_long.ensures ∙ c.if-has_long.true))

pub parts-smaller : goal.parts-smaller
parts-smaller t c =
    let below =
    is_place (side_parts (template_of c.args.e.now)) c.parts.i
    (template_of c.in-Some.part.now) c.in-Some.ensures.part in
    omega (arith, below)

pub parts-preserved : goal.parts-preserved
parts-preserved t c =
    let ps = side_parts (template_of c.args.e.now) in
    c.parts.invariant
    ∙ ap (list_any has_long_in) (rest_at ps c.parts.i (c.parts.i + 1)
    (template_of c.in-Some.part.now) (omega arith) c.in-Some.ensures.part)
    ∙ ap (λ b. b || list_any has_long_in (drop (c.parts.i + 1) ps))
    (sym c.has_long.ensures ∙ c.if-has_long.false)
