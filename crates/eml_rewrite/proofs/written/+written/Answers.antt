use Rattle.std.proofs.Common.{◌≡◌, ◌+◌, [], ◌∷◌, map, Err, subst, sym, ap, ◌∙◌, arith}
use Rattle.std.proofs.lemmas.List.{map-append}
use Rattle.mpy_tree.specs.View.{term_of}
use Rattle.mpy_tree.specs.Shapes.{shape}
use Rattle.choice_tree.specs.Heads.{head_kind, root}
use Rattle.choice_tree.specs.WeightedTrees.{lifted, numbered, picks, size}
use Rattle.choice_tree.specs.Rewriting.{written}
use Rattle.choice_tree.specs.WeightedViews.{weighted_of}
use Rattle.eml_match.specs.Parts.{parts}
use Rattle.eml_match.proofs.HeadParts.{parts_counted}
use Rattle.eml_match.proofs.Places.{is_place}
use Rattle.eml_rewrite.specs.Building.{Built, Took, parts_of}
use Rattle.eml_rewrite.specs.Parts.{written_parts}
use Rattle.eml_rewrite.specs.Spots.{setting_at, context_at, sharing_of}
use Rattle.eml_rewrite.proofs.Appending.{none_built, front_next, front_end, front_stops}
use Rattle.eml_rewrite.proofs.Nodes.{written_copy, has_parts, written_part, written_each}
use Rattle.eml_rewrite.proofs.Nodes.{part_stands, part_less_deep}
use Rattle.eml_rewrite.proofs.Spots.{with_its_sharing}
use Rattle.eml_rewrite.proofs.written.+written.Goals as goal

pub write_expr-weighted_node-requires : goal.write_expr-weighted_node-requires
write_expr-weighted_node-requires g t c =
    let σ = setting_at c.args.spot.now in
    let here = context_at c.args.spot.now in
    let e = shape (term_of c.args.e.now) in
    has_parts (head_kind c.head_of-head.result) (written_part σ here e) (parts e)
    (written_parts σ here e) c.take.new.self.next c.in_ok-parts-in-None.parts.items
    (written_each σ here e) c.in_ok-parts-in-None.ensures.0
    (rw c.head_of-head.ensures (parts_counted (term_of c.args.e.now)))

pub write_expr-returns-in-Some : goal.write_expr-returns-in-Some
write_expr-returns-in-Some g t c =
    subst (λ w. Built weighted_of c.write_copy.result w c.args.counter.now c.write_copy.new.counter)
    (written_copy (setting_at c.args.spot.now) (context_at c.args.spot.now)
    (term_of c.args.e.now) (head_kind c.head_of-head.result) c.in-Some.x.now
    c.head_of-head.ensures c.in-Some.ensures.name c.in-Some.ensures.copied) c.write_copy.ensures

pub write_parts-parts-init : goal.write_parts-parts-init
write_parts-parts-init g t c =
    let e = shape (term_of c.args.e.now) in
    rw c.new-made.ensures.items
    (none_built (written_parts (setting_at c.args.spot.now) (context_at c.args.spot.now) e) _
    c.args.counter.now (written_each (setting_at c.args.spot.now) (context_at c.args.spot.now) e))

pub write_parts-returns-in-None : goal.write_parts-returns-in-None
write_parts-returns-in-None g t c =
    let σ = setting_at c.args.spot.now in
    let here = context_at c.args.spot.now in
    let e = shape (term_of c.args.e.now) in
    front_end (written_parts σ here e) (written_part σ here e) (parts e) c.parts.i
    (map weighted_of c.parts.made.items) c.args.counter.now c.parts.counter c.in-None.ensures.part
    c.parts.invariant

pub write_parts-write_expr-requires : goal.write_parts-write_expr-requires
write_parts-write_expr-requires g t c κs within =
    let less =
    part_less_deep (shape (term_of c.args.e.now)) (shape (term_of c.in-Some.d.now)) c.parts.i
    c.in-Some.ensures.part in
    (omega (arith, less), within)

pub write_parts-returns-in_err-write_expr-in-Some :
    goal.write_parts-returns-in_err-write_expr-in-Some
write_parts-returns-in_err-write_expr-in-Some g t c =
    let σ = setting_at c.args.spot.now in
    let here = context_at c.args.spot.now in
    let e = shape (term_of c.args.e.now) in
    let d = shape (term_of c.in-Some.d.now) in
    let stands =
    part_stands σ c.head_of-head.result (root e) c.parts.i here.scope
    (sharing_of c.args.spot.now.sharing) (sharing_of c.below.result) c.head_of-head.ensures
    c.below.ensures in
    front_stops weighted_of parts_of c.from_residual.result c.in_err-write_expr-in-Some.field-0.0
    (written_parts σ here e) (written_part σ here e) (parts e) c.parts.i d
    (map weighted_of c.parts.made.items) c.args.counter.now c.parts.counter
    c.write_expr.new.counter c.from_residual.ensures c.in-Some.ensures.part c.parts.invariant
    (subst (λ x. Built weighted_of (Err c.in_err-write_expr-in-Some.field-0.0)
    (lifted (written σ d x)) c.parts.counter c.write_expr.new.counter) (sym stands)
    (with_its_sharing c.args.spot.now c.with_sharing-below.result c.below.result
    c.with_sharing-below.ensures (λ σ' steps h. Built weighted_of
    (Err c.in_err-write_expr-in-Some.field-0.0) (lifted (written σ' d h)) c.parts.counter
    c.write_expr.new.counter) c.in_err-write_expr-in-Some.ensures))

pub write_parts-parts-smaller : goal.write_parts-parts-smaller
write_parts-parts-smaller g t c =
    let below =
    is_place (parts (shape (term_of c.args.e.now))) c.parts.i (shape (term_of c.in-Some.d.now))
    c.in-Some.ensures.part in
    omega (arith, below)

pub write_parts-parts-preserved : goal.write_parts-parts-preserved
write_parts-parts-preserved g t c =
    let σ = setting_at c.args.spot.now in
    let here = context_at c.args.spot.now in
    let e = shape (term_of c.args.e.now) in
    let d = shape (term_of c.in-Some.d.now) in
    let stands =
    part_stands σ c.head_of-head.result (root e) c.parts.i here.scope
    (sharing_of c.args.spot.now.sharing) (sharing_of c.below.result) c.head_of-head.ensures
    c.below.ensures in
    let built =
    subst (λ x. (weighted_of c.in_ok-write_expr-in-Some.field-0
    ≡ numbered (lifted (written σ d x)) c.parts.counter.next)
    × Took c.parts.counter c.write_expr.new.counter (picks (lifted (written σ d x)))
    (size (lifted (written σ d x)))) (sym stands)
    (with_its_sharing c.args.spot.now c.with_sharing-below.result c.below.result
    c.with_sharing-below.ensures
    (λ σ' steps h. (weighted_of c.in_ok-write_expr-in-Some.field-0
    ≡ numbered (lifted (written σ' d h)) c.parts.counter.next)
    × Took c.parts.counter c.write_expr.new.counter (picks (lifted (written σ' d h)))
    (size (lifted (written σ' d h)))) c.in_ok-write_expr-in-Some.ensures) in
    front_next (written_parts σ here e) (written_part σ here e) (parts e) c.parts.i
    (c.parts.i + 1) d (weighted_of c.in_ok-write_expr-in-Some.field-0)
    (map weighted_of c.parts.made.items) (map weighted_of c.push.new.self.items)
    c.args.counter.now c.parts.counter c.write_expr.new.counter (omega arith)
    c.in-Some.ensures.part c.parts.invariant built.0 built.1
    (ap (map weighted_of) c.in_ok-push-in-Some.ensures.items
    ∙ map-append weighted_of c.parts.made.items (c.in_ok-write_expr-in-Some.field-0 ∷ []))
