use Rattle.std.proofs.Common.{◌+◌, ◌-◌, ◌<◌, ◌||◌}
use Rattle.std.proofs.Common.{arith, ap, sym, ◌∙◌}
use Rattle.std.proofs.Common.{drop, nat_lt}
use Rattle.choice_tree.specs.RuleViews.{template_of}
use Rattle.eml_match.specs.Resolutions.{depth}
use Rattle.eml_faults.specs.Sides.{side_parts}
use Rattle.eml_faults.specs.Walks.{deepest}
use Rattle.eml_match.proofs.Places.{is_place}
use Rattle.eml_faults.proofs.Walks.{deeper_below, deeper_of_two, depth_by_parts, none_deeper}
use Rattle.eml_faults.proofs.Walks.{part_smaller, rest_at, rest_end}
use Rattle.eml_faults.proofs.nodes.+is_deeper.Goals as goal

pub parts-init : goal.parts-init
parts-init t c =
    let p = template_of c.args.e.now in
    let positive : 0 < c.args.limit = omega arith in
    ap (nat_lt c.args.limit) (depth_by_parts p)
    ∙ deeper_below c.args.limit (deepest (side_parts p)) positive

pub returns-in-None : goal.returns-in-None
returns-in-None t c =
    sym (c.parts.invariant
    ∙ ap (λ qs. nat_lt (c.args.limit - 1) (deepest qs))
    (rest_end (side_parts (template_of c.args.e.now)) c.parts.i c.in-None.ensures.part)
    ∙ none_deeper (c.args.limit - 1))

pub is_deeper-requires : goal.is_deeper-requires
is_deeper-requires t c =
    let less =
    part_smaller (template_of c.args.e.now) (template_of c.in-Some.part.now) c.parts.i
    c.in-Some.ensures.part in
    (omega (arith, less), tt)

pub returns-then-is_deeper : goal.returns-then-is_deeper
returns-then-is_deeper t c =
    let ps = side_parts (template_of c.args.e.now) in
    let q = template_of c.in-Some.part.now in
    let rest = drop (c.parts.i + 1) ps in
    sym (c.parts.invariant
    ∙ ap (λ qs. nat_lt (c.args.limit - 1) (deepest qs)) (rest_at ps c.parts.i (c.parts.i + 1)
    q (omega arith) c.in-Some.ensures.part)
    ∙ deeper_of_two (c.args.limit - 1) (depth q) (deepest rest)
    ∙ ap (λ b. b || nat_lt (c.args.limit - 1) (deepest rest))
    (sym c.is_deeper.ensures ∙ c.if-is_deeper.true))

pub parts-smaller : goal.parts-smaller
parts-smaller t c =
    let below =
    is_place (side_parts (template_of c.args.e.now)) c.parts.i
    (template_of c.in-Some.part.now) c.in-Some.ensures.part in
    omega (arith, below)

pub parts-preserved : goal.parts-preserved
parts-preserved t c =
    let ps = side_parts (template_of c.args.e.now) in
    let q = template_of c.in-Some.part.now in
    let rest = drop (c.parts.i + 1) ps in
    c.parts.invariant
    ∙ ap (λ qs. nat_lt (c.args.limit - 1) (deepest qs)) (rest_at ps c.parts.i (c.parts.i + 1)
    q (omega arith) c.in-Some.ensures.part)
    ∙ deeper_of_two (c.args.limit - 1) (depth q) (deepest rest)
    ∙ ap (λ b. b || nat_lt (c.args.limit - 1) (deepest rest))
    (sym c.is_deeper.ensures ∙ c.if-is_deeper.false)
