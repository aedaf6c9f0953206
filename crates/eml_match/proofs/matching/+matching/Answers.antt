use Rattle.std.proofs.Common.{◌≡◌, ◌+◌, ◌++◌, arith, ap, ◌∙◌, sym, Some, None}
use Rattle.mpy_tree.specs.View.{term_of}
use Rattle.mpy_tree.specs.Shapes.{shape}
use Rattle.choice_tree.specs.RuleViews.{template_of}
use Rattle.choice_tree.specs.Matching.{matches}
use Rattle.eml_match.specs.MatchViews.{bindings_of, bindings_found, head_matches}
use Rattle.eml_match.specs.Parts.{parts, template_parts}
use Rattle.eml_match.proofs.Places.{head_then_parts, pattern_smaller, is_place, each_next, each_end}
use Rattle.eml_match.proofs.Places.{each_longer, each_shorter, each_fails, bound_append, if_ok}
use Rattle.eml_match.proofs.matching.+matching.Goals as goal

pub match_expr-returns-in-Some : goal.match_expr-returns-in-Some
match_expr-returns-in-Some t c =
    let p = template_of c.args.p.now in
    let e = shape (term_of c.args.e.now) in
    let head : Some (bindings_of c.in-Some.found.items) ≡ head_matches p e =
    ap bindings_found (sym c.in-Some.is) ∙ c.in_ok-match_head.ensures in
    if_ok c.match_parts.result
    (λ r h. h ∙ head_then_parts p e (bindings_of c.in-Some.found.items) head)
    c.match_parts.ensures

pub match_parts-returns-in-None-part : goal.match_parts-returns-in-None-part
match_parts-returns-in-None-part t c =
    each_end (template_parts (template_of c.args.p.now)) (parts (shape (term_of c.args.e.now)))
    c.parts.i (bindings_of c.args.found.items) (bindings_of c.parts.all.items)
    c.in-None.ensures.part c.in-None-part.ensures.part c.parts.invariant

pub match_parts-returns-in-Some-part : goal.match_parts-returns-in-Some-part
match_parts-returns-in-Some-part t c =
    each_longer (template_parts (template_of c.args.p.now))
    (parts (shape (term_of c.args.e.now))) c.parts.i
    (shape (term_of c.in-Some-part.field-0.now)) (bindings_of c.args.found.items)
    (bindings_of c.parts.all.items) c.in-None.ensures.part c.in-Some-part.ensures.part
    c.parts.invariant

pub match_parts-returns-in-None-part-2 : goal.match_parts-returns-in-None-part-2
match_parts-returns-in-None-part-2 t c =
    each_shorter (template_parts (template_of c.args.p.now))
    (parts (shape (term_of c.args.e.now))) c.parts.i (template_of c.in-Some.q.now)
    (bindings_of c.args.found.items) (bindings_of c.parts.all.items) c.in-Some.ensures.part
    c.in-None-part-2.ensures.part c.parts.invariant

pub match_parts-match_expr-requires : goal.match_parts-match_expr-requires
match_parts-match_expr-requires t c =
    let less =
    pattern_smaller (template_of c.args.p.now) (template_of c.in-Some.q.now) c.parts.i
    c.in-Some.ensures.part in
    (omega (arith, less), tt)

pub match_parts-returns-in-None-2 : goal.match_parts-returns-in-None-2
match_parts-returns-in-None-2 t c =
    let q = template_of c.in-Some.q.now in
    let d = shape (term_of c.in-Some-part-2.d.now) in
    let found : None ≡ matches q d =
    ap bindings_found (sym c.in-None-2.is) ∙ c.in_ok-match_expr-in-Some-part-2.ensures in
    each_fails (template_parts (template_of c.args.p.now)) (parts (shape (term_of c.args.e.now)))
    c.parts.i q d (bindings_of c.args.found.items) (bindings_of c.parts.all.items)
    c.in-Some.ensures.part c.in-Some-part-2.ensures.part found c.parts.invariant

pub match_parts-parts-smaller : goal.match_parts-parts-smaller
match_parts-parts-smaller t c =
    let below =
    is_place (parts (shape (term_of c.args.e.now))) c.parts.i
    (shape (term_of c.in-Some-part-2.d.now)) c.in-Some-part-2.ensures.part in
    omega (arith, below)

pub match_parts-parts-preserved : goal.match_parts-parts-preserved
match_parts-parts-preserved t c =
    let q = template_of c.in-Some.q.now in
    let d = shape (term_of c.in-Some-part-2.d.now) in
    let more = c.in-Some-2.more.items in
    let found : Some (bindings_of more) ≡ matches q d =
    ap bindings_found (sym c.in-Some-2.is) ∙ c.in_ok-match_expr-in-Some-part-2.ensures in
    let put : c.extend_from_slice.new.self.items ≡ c.parts.all.items ++ more =
    c.in_ok-extend_from_slice-in-Some-2.ensures.items
    ∙ ap (λ xs. c.parts.all.items ++ xs) c.as_slice.ensures.value in
    each_next (template_parts (template_of c.args.p.now)) (parts (shape (term_of c.args.e.now)))
    c.parts.i (c.parts.i + 1) q d (bindings_of c.args.found.items)
    (bindings_of c.parts.all.items) (bindings_of c.extend_from_slice.new.self.items)
    (bindings_of more) (omega arith) c.in-Some.ensures.part c.in-Some-part-2.ensures.part found
    (ap bindings_of put ∙ bound_append c.parts.all.items more) c.parts.invariant
