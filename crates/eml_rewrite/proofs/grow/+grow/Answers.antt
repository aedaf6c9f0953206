use Rattle.std.proofs.Common.{◌≡◌, ◌+◌, ◌-◌, ◌<◌, ◌≤◌, [], ◌∷◌, map, filter, length, Err, subst}
use Rattle.std.proofs.Common.{sym, ap, ◌∙◌, refl, arith}
use Rattle.std.proofs.lemmas.Grind.{common_steps}
use Rattle.std.proofs.lemmas.List.{map-append}
use Rattle.std.proofs.lemmas.List.Elements.{All-get_or}
use Rattle.mpy_tree.specs.View.{term_of}
use Rattle.mpy_tree.specs.Shapes.{shape}
use Rattle.choice_tree.specs.Contexts.{Context, elsewhere, inside}
use Rattle.choice_tree.specs.Growing.{draft_grown, grown, is_alternative}
use Rattle.choice_tree.specs.Heads.{head_kind, root}
use Rattle.choice_tree.specs.Matching.{here as here_of}
use Rattle.choice_tree.specs.RuleViews.{corrections_of, template_of}
use Rattle.choice_tree.specs.WeightedTrees.{numbered, picks, size}
use Rattle.choice_tree.specs.WeightedViews.{weighted_of, others_of, member_seen}
use Rattle.eml_match.specs.MatchedRules.{matched_of, proposals_by, site_of}
use Rattle.eml_match.specs.MatchViews.{bindings_of}
use Rattle.eml_match.specs.Parts.{parts, template_parts}
use Rattle.eml_match.specs.Resolutions.{depth, locals_for, resolution}
use Rattle.eml_match.proofs.HeadParts.{parts_counted}
use Rattle.eml_match.proofs.Places.{is_place}
use Rattle.eml_instances.specs.Alternatives.{AreAlternatives, IsNumbered, alternative_seen}
use Rattle.eml_instances.specs.Resolving.{Gives, part_number}
use Rattle.eml_instances.specs.Substitutions.{bindings_in, locals_in}
use Rattle.eml_rewrite.specs.Building.{Built, Took, parts_of}
use Rattle.eml_rewrite.specs.Parts.{kept_parts, draft_parts_grown}
use Rattle.eml_rewrite.specs.Sides.{AreMembers, deepest, draft_at}
use Rattle.eml_rewrite.specs.Spots.{setting_at, context_at, sharing_of}
use Rattle.eml_rewrite.proofs.Alternatives.{inside_is, none_found, same_count, some_found, too_many}
use Rattle.eml_rewrite.proofs.Appending.{none_built, front_next, front_end, front_stops}
use Rattle.eml_rewrite.proofs.AsItStands.{as_it_stands}
use Rattle.eml_rewrite.proofs.Depths.{alternative_depth, matched_not_deeper, one_step_less}
use Rattle.eml_rewrite.proofs.Depths.{part_depth}
use Rattle.eml_rewrite.proofs.Members.{front_member, front_members_end, front_member_fails}
use Rattle.eml_rewrite.proofs.Members.{others_are}
use Rattle.eml_rewrite.proofs.Nodes.{kept_copy, has_parts, kept_part, kept_each, side_each}
use Rattle.eml_rewrite.proofs.Nodes.{side_part, part_stands, site_of_part}
use Rattle.eml_rewrite.proofs.Spots.{same_deepest, same_reach, same_scope, with_its_sharing}
use Rattle.eml_rewrite.proofs.grow.+grow.Goals as goal

pub grow-returns-in-None : goal.grow-returns-in-None
grow-returns-in-None g t c =
    let σ = setting_at c.args.spot.now in
    let here = context_at c.args.spot.now in
    let e = shape (term_of c.args.e.now) in
    let ms = map matched_of c.as_slice.result.now in
    let found : AreAlternatives c.in_ok-alternatives.field-0 c.args.counter.now.left here.scope ms
    (filter (is_alternative here.scope e) (proposals_by here.scope ms)) =
    c.in_ok-alternatives.ensures in
    let many =
    subst (λ o. AreAlternatives o c.args.counter.now.left here.scope ms
    (filter (is_alternative here.scope e) (proposals_by here.scope ms))) c.in-None.is found in
    too_many σ c.args.spot.now.steps (c.args.spot.now.steps - 1) (site_of c.args.site) here e ms
    c.args.counter.now.left (omega arith)
    (ap (map matched_of) c.as_slice.ensures.value ∙ c.in_ok-matched.ensures) many

pub grow-returns-then-is_empty : goal.grow-returns-then-is_empty
grow-returns-then-is_empty g t c =
    let σ = setting_at c.args.spot.now in
    let here = context_at c.args.spot.now in
    let e = shape (term_of c.args.e.now) in
    let ms = map matched_of c.as_slice.result.now in
    let found : AreAlternatives c.in_ok-alternatives.field-0 c.args.counter.now.left here.scope ms
    (filter (is_alternative here.scope e) (proposals_by here.scope ms)) =
    c.in_ok-alternatives.ensures in
    let some =
    subst (λ o. AreAlternatives o c.args.counter.now.left here.scope ms
    (filter (is_alternative here.scope e) (proposals_by here.scope ms))) c.in-Some.is found in
    let none : length c.as_slice-listed.result.now ≡ 0 = grind (arith, common_steps) in
    subst (λ w. Built weighted_of c.grow_base.result w c.args.counter.now c.grow_base.new.counter)
    (none_found σ c.args.spot.now.steps (c.args.spot.now.steps - 1) (site_of c.args.site) here e ms
    (alternative_seen here.scope) c.in-Some.found.items (omega arith)
    (ap (map matched_of) c.as_slice.ensures.value ∙ c.in_ok-matched.ensures) some.0
    (ap length (sym c.as_slice-listed.ensures.value) ∙ none)) c.grow_base.ensures

pub grow-grow_pick-requires : goal.grow-grow_pick-requires
grow-grow_pick-requires g t c κs within =
    let here = context_at c.args.spot.now in
    let rules = corrections_of c.args.spot.now.rules.now in
    let e = shape (term_of c.args.e.now) in
    let ms = map matched_of c.as_slice.result.now in
    let found : AreAlternatives c.in_ok-alternatives.field-0 c.args.counter.now.left here.scope ms
    (filter (is_alternative here.scope e) (proposals_by here.scope ms)) =
    c.in_ok-alternatives.ensures in
    let some =
    subst (λ o. AreAlternatives o c.args.counter.now.left here.scope ms
    (filter (is_alternative here.scope e) (proposals_by here.scope ms))) c.in-Some.is found in
    let are : AreMembers here.scope (deepest rules) c.in-Some.found.items = record {
      numbered = some.1;
      deep =
          matched_not_deeper (here_of (site_of c.args.site)) rules e ms c.in-Some.found.items
          (ap (map matched_of) c.as_slice.ensures.value ∙ c.in_ok-matched.ensures) some.2;
    } in
    let less =
    one_step_less rules c.args.spot.now.steps (c.args.spot.now.steps - 1) (omega arith) in (
      omega (arith, less),
      (
        within,
        subst (AreMembers here.scope (deepest rules)) (sym c.as_slice-listed.ensures.value)
            are,
      ),
    )

pub grow-returns : goal.grow-returns
grow-returns g t c =
    let σ = setting_at c.args.spot.now in
    let here = context_at c.args.spot.now in
    let e = shape (term_of c.args.e.now) in
    let ms = map matched_of c.as_slice.result.now in
    let found : AreAlternatives c.in_ok-alternatives.field-0 c.args.counter.now.left here.scope ms
    (filter (is_alternative here.scope e) (proposals_by here.scope ms)) =
    c.in_ok-alternatives.ensures in
    let some =
    subst (λ o. AreAlternatives o c.args.counter.now.left here.scope ms
    (filter (is_alternative here.scope e) (proposals_by here.scope ms))) c.in-Some.is found in
    let more : 0 < length c.as_slice-listed.result.now = grind (arith, common_steps) in
    subst (λ w. Built weighted_of c.grow_pick.result w c.args.counter.now c.grow_pick.new.counter)
    (some_found σ c.args.spot.now.steps (c.args.spot.now.steps - 1) (site_of c.args.site) here e ms
    (alternative_seen here.scope) c.as_slice-listed.result.now (omega arith)
    (ap (map matched_of) c.as_slice.ensures.value ∙ c.in_ok-matched.ensures)
    (ap (map (alternative_seen here.scope)) c.as_slice-listed.ensures.value ∙ some.0) more)
    c.grow_pick.ensures

pub grow_kept-weighted_node-requires : goal.grow_kept-weighted_node-requires
grow_kept-weighted_node-requires g t c =
    let σ = setting_at c.args.spot.now in
    let here = context_at c.args.spot.now in
    let grow = grown σ c.args.spot.now.steps in
    let e = shape (term_of c.args.e.now) in
    has_parts (head_kind c.head_of-head.result) (kept_part σ grow here e) (parts e)
    (kept_parts σ grow here e) c.take.new.self.next c.in_ok-parts-in-None.parts.items
    (kept_each σ grow here e) c.in_ok-parts-in-None.ensures.0
    (rw c.head_of-head.ensures (parts_counted (term_of c.args.e.now)))

pub grow_kept-returns-in-Some : goal.grow_kept-returns-in-Some
grow_kept-returns-in-Some g t c =
    let σ = setting_at c.args.spot.now in
    subst (λ w. Built weighted_of c.write_copy.result w c.args.counter.now c.write_copy.new.counter)
    (kept_copy σ (grown σ c.args.spot.now.steps) (context_at c.args.spot.now)
    (term_of c.args.e.now) (head_kind c.head_of-head.result) c.in-Some.x.now
    c.head_of-head.ensures c.in-Some.ensures.name c.in-Some.ensures.copied) c.write_copy.ensures

pub grow_parts-parts-init : goal.grow_parts-parts-init
grow_parts-parts-init g t c =
    let σ = setting_at c.args.spot.now in
    let here = context_at c.args.spot.now in
    let grow = grown σ c.args.spot.now.steps in
    let e = shape (term_of c.args.e.now) in
    rw c.new-made.ensures.items
    (none_built (kept_parts σ grow here e) _ c.args.counter.now (kept_each σ grow here e))

pub grow_parts-returns-in-None : goal.grow_parts-returns-in-None
grow_parts-returns-in-None g t c =
    let σ = setting_at c.args.spot.now in
    let here = context_at c.args.spot.now in
    let grow = grown σ c.args.spot.now.steps in
    let e = shape (term_of c.args.e.now) in
    front_end (kept_parts σ grow here e) (kept_part σ grow here e) (parts e) c.parts.i
    (map weighted_of c.parts.made.items) c.args.counter.now c.parts.counter c.in-None.ensures.part
    c.parts.invariant

pub grow_parts-returns-in_err-grow-in-Some : goal.grow_parts-returns-in_err-grow-in-Some
grow_parts-returns-in_err-grow-in-Some g t c =
    let σ = setting_at c.args.spot.now in
    let here = context_at c.args.spot.now in
    let grow = grown σ c.args.spot.now.steps in
    let e = shape (term_of c.args.e.now) in
    let d = shape (term_of c.in-Some.d.now) in
    let stands =
    part_stands σ c.head_of-head.result (root e) c.parts.i here.scope
    (sharing_of c.args.spot.now.sharing) (sharing_of c.below.result) c.head_of-head.ensures
    c.below.ensures in
    let there = site_of_part c.head_of-head.result (root e) c.head_of-head.ensures in
    let same : grow elsewhere (record { scope = here.scope; sharing = sharing_of c.below.result }) d
    ≡ kept_part σ grow here e c.parts.i d = λ i. grow (sym there i) (sym stands i) d in
    front_stops weighted_of parts_of c.from_residual.result c.in_err-grow-in-Some.field-0.0
    (kept_parts σ grow here e) (kept_part σ grow here e) (parts e) c.parts.i d
    (map weighted_of c.parts.made.items) c.args.counter.now c.parts.counter
    c.grow.new.counter c.from_residual.ensures c.in-Some.ensures.part c.parts.invariant
    (subst (λ x. Built weighted_of (Err c.in_err-grow-in-Some.field-0.0) x c.parts.counter
    c.grow.new.counter) same
    (with_its_sharing c.args.spot.now c.with_sharing-below.result c.below.result
    c.with_sharing-below.ensures (λ σ' steps h. Built weighted_of
    (Err c.in_err-grow-in-Some.field-0.0) (grown σ' steps elsewhere h d) c.parts.counter
    c.grow.new.counter) c.in_err-grow-in-Some.ensures))

pub grow_parts-parts-smaller : goal.grow_parts-parts-smaller
grow_parts-parts-smaller g t c =
    let below =
    is_place (parts (shape (term_of c.args.e.now))) c.parts.i (shape (term_of c.in-Some.d.now))
    c.in-Some.ensures.part in
    omega (arith, below)

pub grow_parts-parts-preserved : goal.grow_parts-parts-preserved
grow_parts-parts-preserved g t c =
    let σ = setting_at c.args.spot.now in
    let here = context_at c.args.spot.now in
    let grow = grown σ c.args.spot.now.steps in
    let e = shape (term_of c.args.e.now) in
    let d = shape (term_of c.in-Some.d.now) in
    let stands =
    part_stands σ c.head_of-head.result (root e) c.parts.i here.scope
    (sharing_of c.args.spot.now.sharing) (sharing_of c.below.result) c.head_of-head.ensures
    c.below.ensures in
    let there = site_of_part c.head_of-head.result (root e) c.head_of-head.ensures in
    let same : grow elsewhere (record { scope = here.scope; sharing = sharing_of c.below.result }) d
    ≡ kept_part σ grow here e c.parts.i d = λ i. grow (sym there i) (sym stands i) d in
    let built =
    subst (λ x. (weighted_of c.in_ok-grow-in-Some.field-0 ≡ numbered x c.parts.counter.next)
    × Took c.parts.counter c.grow.new.counter (picks x) (size x)) same
    (with_its_sharing c.args.spot.now c.with_sharing-below.result c.below.result
    c.with_sharing-below.ensures (λ σ' steps h. (weighted_of c.in_ok-grow-in-Some.field-0
    ≡ numbered (grown σ' steps elsewhere h d) c.parts.counter.next)
    × Took c.parts.counter c.grow.new.counter (picks (grown σ' steps elsewhere h d))
    (size (grown σ' steps elsewhere h d))) c.in_ok-grow-in-Some.ensures) in
    front_next (kept_parts σ grow here e) (kept_part σ grow here e) (parts e) c.parts.i
    (c.parts.i + 1) d (weighted_of c.in_ok-grow-in-Some.field-0)
    (map weighted_of c.parts.made.items) (map weighted_of c.push.new.self.items)
    c.args.counter.now c.parts.counter c.grow.new.counter (omega arith)
    c.in-Some.ensures.part c.parts.invariant built.0 built.1
    (ap (map weighted_of) c.in_ok-push-in-Some.ensures.items
    ∙ map-append weighted_of c.parts.made.items (c.in_ok-grow-in-Some.field-0 ∷ []))

pub grow_members-grow_member-requires : goal.grow_members-grow_member-requires
grow_members-grow_member-requires g t c κs within =
    let here = context_at c.args.spot.now in
    let rules = corrections_of c.args.spot.now.rules.now in
    let numbered =
    subst (IsNumbered here.scope) (sym c.a-item.is)
    (All-get_or (IsNumbered here.scope) c.args.found.now c.loop-a.a-index c.a-item.result
    c.loop-a-test.true c.requires.numbered) in
    let s = c.args.spot.now in
    let s' = c.with_sharing-within.result in
    let there = c.with_sharing-within.ensures in
    let reached = same_reach s s' c.inside.result there in
    let most = same_deepest s s' c.inside.result there in
    let deep =
    alternative_depth (deepest rules) c.loop-a.a-index c.a-item.result c.args.found.now
    c.loop-a-test.true c.a-item.is c.requires.deep in (
      omega (arith, reached, most),
      (
        within,
        (
          subst (λ σ. IsNumbered σ c.a-item.result)
              (sym (same_scope s s' c.inside.result there)) numbered,
          omega (arith, most, deep),
        ),
      ),
    )

pub grow_members-returns-in_err-tree : goal.grow_members-returns-in_err-tree
grow_members-returns-in_err-tree g t c =
    let σ = setting_at c.args.spot.now in
    let here = context_at c.args.spot.now in
    let grow = grown σ c.args.spot.now.steps in
    let seen = alternative_seen here.scope in
    let same =
    inside_is here.scope (sharing_of c.args.spot.now.sharing) (sharing_of c.inside.result)
    c.inside.ensures in
    front_member_fails weighted_of others_of c.from_residual.result c.in_err-tree.field-0.0 σ grow
    (inside here) seen c.args.found.now c.loop-a.a-index c.a-item.result
    (map member_seen c.loop-a.items.items) c.args.counter.now c.loop-a.counter
    c.grow_member.new.counter c.from_residual.ensures c.loop-a-test.true c.a-item.is
    c.loop-a.invariant
    (subst (λ x. Built weighted_of (Err c.in_err-tree.field-0.0)
    (draft_grown σ grow (seen c.a-item.result).draft x) c.loop-a.counter c.grow_member.new.counter)
    (sym same)
    (with_its_sharing c.args.spot.now c.with_sharing-within.result c.inside.result
    c.with_sharing-within.ensures (λ σ' steps h. Built weighted_of
    (Err c.in_err-tree.field-0.0) (draft_grown σ' (grown σ' steps)
    (alternative_seen h.scope c.a-item.result).draft h) c.loop-a.counter
    c.grow_member.new.counter) c.in_err-tree.ensures))

pub grow_members-loop-a-preserved : goal.grow_members-loop-a-preserved
grow_members-loop-a-preserved g t c =
    let σ = setting_at c.args.spot.now in
    let here = context_at c.args.spot.now in
    let grow = grown σ c.args.spot.now.steps in
    let seen = alternative_seen here.scope in
    let same =
    inside_is here.scope (sharing_of c.args.spot.now.sharing) (sharing_of c.inside.result)
    c.inside.ensures in
    let built =
    subst (λ x. (weighted_of c.in_ok-tree.tree
    ≡ numbered (draft_grown σ grow (seen c.a-item.result).draft x) c.loop-a.counter.next)
    × Took c.loop-a.counter c.grow_member.new.counter
    (picks (draft_grown σ grow (seen c.a-item.result).draft x))
    (size (draft_grown σ grow (seen c.a-item.result).draft x))) (sym same)
    (with_its_sharing c.args.spot.now c.with_sharing-within.result c.inside.result
    c.with_sharing-within.ensures
    (λ σ' steps h. let w = draft_grown σ' (grown σ' steps)
    (alternative_seen h.scope c.a-item.result).draft h in
    (weighted_of c.in_ok-tree.tree ≡ numbered w c.loop-a.counter.next)
    × Took c.loop-a.counter c.grow_member.new.counter (picks w) (size w))
    c.in_ok-tree.ensures) in
    front_member σ grow (inside here) seen c.args.found.now c.loop-a.a-index (c.loop-a.a-index + 1)
    c.a-item.result _ c.in_ok-tree.tree c.loop-a.items.items c.push.new.self.items
    c.args.counter.now c.loop-a.counter c.grow_member.new.counter (omega arith)
    c.loop-a-test.true c.a-item.is c.loop-a.invariant refl built c.in_ok-push.ensures.items

pub grow_members-returns : goal.grow_members-returns
grow_members-returns g t c =
    let σ = setting_at c.args.spot.now in
    let here = context_at c.args.spot.now in
    let grow = grown σ c.args.spot.now.steps in
    let done =
    front_members_end σ grow (inside here) (alternative_seen here.scope) c.args.found.now
    c.loop-a.a-index (map member_seen c.loop-a.items.items) c.args.counter.now c.loop-a.counter
    c.loop-a-test.false c.loop-a.invariant in
    (others_are c.loop-a.items ∙ done.0, done.1)

pub grow_member-grow_side-requires : goal.grow_member-grow_side-requires
grow_member-grow_side-requires g t c κs within =
    let here = context_at c.args.spot.now in
    let a = c.args.a.now in
    let β = c.in_ok-bound.ensures.bindings ∙ ap bindings_of c.as_slice.ensures.value in
    let L =
    c.in_ok-bound.ensures.locals
    ∙ ap (λ bs. locals_for here.scope (bindings_of bs)) c.as_slice.ensures.value in
    let right : depth (template_of a.matched.now.right.now)
    ≤ deepest (corrections_of c.args.spot.now.rules.now) = c.requires.deep in
    let side : depth (template_of a.side.now) ≤ depth (template_of a.matched.now.right.now) =
    c.requires.numbered.2 in
    let deep : depth (template_of a.side.now)
    ≤ deepest (corrections_of c.args.spot.now.rules.now) = omega (arith, side, right) in (
      omega arith,
      (
        within,
        record {
          below =
              same_count (template_of a.side.now) a.number _ _ _ _ L β c.requires.numbered.0;
          small = c.requires.numbered.1;
          deep = deep;
        },
      ),
    )

pub grow_member-returns : goal.grow_member-returns
grow_member-returns g t c =
    let σ = setting_at c.args.spot.now in
    let here = context_at c.args.spot.now in
    let grow = grown σ c.args.spot.now.steps in
    let a = c.args.a.now in
    let β = c.in_ok-bound.ensures.bindings ∙ ap bindings_of c.as_slice.ensures.value in
    let L =
    c.in_ok-bound.ensures.locals
    ∙ ap (λ bs. locals_for here.scope (bindings_of bs)) c.as_slice.ensures.value in
    let same : resolution (template_of a.side.now) (locals_in c.in_ok-bound.bound)
    (bindings_in c.in_ok-bound.bound) a.number ≡ (alternative_seen here.scope a).draft =
    λ i. resolution (template_of a.side.now) (L i) (β i) a.number in
    subst (λ d. Built weighted_of c.grow_side.result (draft_grown σ grow d here) c.args.counter.now
    c.grow_side.new.counter) same c.grow_side.ensures

pub grow_side-returns-in-Term : goal.grow_side-returns-in-Term
grow_side-returns-in-Term g t c =
    let σ = setting_at c.args.spot.now in
    let here = context_at c.args.spot.now in
    let grow = grown σ c.args.spot.now.steps in
    let side = c.args.side.now in
    let p = template_of side.term.now in
    let L = locals_in side.bound.now in
    let β = bindings_in side.bound.now in
    let e = shape (term_of c.in-Term.t.now) in
    let given : Gives c.resolved.result p L β side.number = c.resolved.ensures in
    let is = subst (λ x. Gives x p L β side.number) c.in-Term.is given in
    subst (λ w. Built weighted_of c.write_expr.result w c.args.counter.now c.write_expr.new.counter)
    (sym (as_it_stands σ grow e here) ∙ ap (λ d. draft_grown σ grow d here) (sym is))
    c.write_expr.ensures

pub grow_side-returns-in-Element : goal.grow_side-returns-in-Element
grow_side-returns-in-Element g t c =
    let σ = setting_at c.args.spot.now in
    let here = context_at c.args.spot.now in
    let grow = grown σ c.args.spot.now.steps in
    let side = c.args.side.now in
    let p = template_of side.term.now in
    let L = locals_in side.bound.now in
    let β = bindings_in side.bound.now in
    let given : Gives c.resolved.result p L β side.number = c.resolved.ensures in
    let is = subst (λ x. Gives x p L β side.number) c.in-Element.is given in
    subst (λ w. Built weighted_of c.grow_side.result w c.args.counter.now c.grow_side.new.counter)
    (ap (λ d. draft_grown σ grow d here) (sym is.0)) c.grow_side.ensures

pub grow_node-weighted_node-requires : goal.grow_node-weighted_node-requires
grow_node-weighted_node-requires g t c =
    let σ = setting_at c.args.spot.now in
    let here = context_at c.args.spot.now in
    let grow = grown σ c.args.spot.now.steps in
    let side = c.args.side.now in
    let p = template_of side.term.now in
    let L = locals_in side.bound.now in
    let β = bindings_in side.bound.now in
    let k = head_kind c.args.head in
    has_parts k (side_part σ grow here k L β (λ i. part_number p L β i side.number))
    (template_parts p) (draft_parts_grown σ grow here (draft_at side)) c.take.new.self.next
    c.in_ok-parts-in-None.parts.items
    (side_each σ grow here k L β p side.number (draft_at side) c.requires.node.0)
    c.in_ok-parts-in-None.ensures.0 c.requires.node.1

pub grow_side_parts-parts-init : goal.grow_side_parts-parts-init
grow_side_parts-parts-init g t c =
    let σ = setting_at c.args.spot.now in
    let here = context_at c.args.spot.now in
    let grow = grown σ c.args.spot.now.steps in
    let side = c.args.side.now in
    let p = template_of side.term.now in
    let L = locals_in side.bound.now in
    let β = bindings_in side.bound.now in
    rw c.new-made.ensures.items
    (none_built (draft_parts_grown σ grow here (draft_at side)) _ c.args.counter.now
    (side_each σ grow here (head_kind c.args.head) L β p side.number (draft_at side)
    c.requires.node.0))

pub grow_side_parts-returns-in-None : goal.grow_side_parts-returns-in-None
grow_side_parts-returns-in-None g t c =
    let σ = setting_at c.args.spot.now in
    let here = context_at c.args.spot.now in
    let grow = grown σ c.args.spot.now.steps in
    let side = c.args.side.now in
    let p = template_of side.term.now in
    let L = locals_in side.bound.now in
    let β = bindings_in side.bound.now in
    front_end (draft_parts_grown σ grow here (draft_at side))
    (side_part σ grow here (head_kind c.args.head) L β (λ i. part_number p L β i side.number))
    (template_parts p) c.parts.i (map weighted_of c.parts.made.items) c.args.counter.now
    c.parts.counter c.in-None.ensures.part c.parts.invariant

pub grow_side_parts-part_number-requires-clause-place :
    goal.grow_side_parts-part_number-requires-clause-place
grow_side_parts-part_number-requires-clause-place g t c =
    is_place (template_parts (template_of c.args.side.now.term.now)) c.parts.i
    (template_of c.in-Some.term.now) c.in-Some.ensures.part

pub grow_side_parts-grow_side-requires : goal.grow_side_parts-grow_side-requires
grow_side_parts-grow_side-requires g t c κs within =
    let p = template_of c.args.side.now.term.now in
    let q = template_of c.in-Some.term.now in
    let less = part_depth p q c.parts.i c.in-Some.ensures.part in
    let most = c.requires.side.deep in
    let s = c.args.spot.now in
    let s' = c.with_sharing-below.result in
    let there = c.with_sharing-below.ensures in
    let reached = same_reach s s' c.below.result there in
    let same = same_deepest s s' c.below.result there in (
      omega (arith, reached, less),
      (
        within,
        record {
          below = c.part_number.ensures.below q (sym c.in-Some.ensures.part);
          small = c.part_number.ensures.near;
          deep = omega (arith, same, less, most);
        },
      ),
    )

pub grow_side_parts-returns-in_err-grow_side-in-Some :
    goal.grow_side_parts-returns-in_err-grow_side-in-Some
grow_side_parts-returns-in_err-grow_side-in-Some g t c =
    let σ = setting_at c.args.spot.now in
    let here = context_at c.args.spot.now in
    let grow = grown σ c.args.spot.now.steps in
    let side = c.args.side.now in
    let p = template_of side.term.now in
    let L = locals_in side.bound.now in
    let β = bindings_in side.bound.now in
    let k = head_kind c.args.head in
    let q = template_of c.in-Some.term.now in
    let number = c.part_number.result in
    let stands =
    part_stands σ c.args.head k c.parts.i here.scope (sharing_of c.args.spot.now.sharing)
    (sharing_of c.below.result) refl c.below.ensures in
    let there : Context = record {
      scope = here.scope;
      sharing = sharing_of c.below.result;
    } in
    let same : draft_grown σ grow (resolution q L β number) there
    ≡ side_part σ grow here k L β (λ i. part_number p L β i side.number) c.parts.i q =
    λ i. draft_grown σ grow (resolution q L β (c.part_number.ensures.number i))
    (sym stands i) in
    front_stops weighted_of parts_of c.from_residual.result
    c.in_err-grow_side-in-Some.field-0.0 (draft_parts_grown σ grow here (draft_at side))
    (side_part σ grow here k L β (λ i. part_number p L β i side.number)) (template_parts p)
    c.parts.i q (map weighted_of c.parts.made.items) c.args.counter.now c.parts.counter
    c.grow_side.new.counter c.from_residual.ensures
    c.in-Some.ensures.part c.parts.invariant
    (subst (λ x. Built weighted_of (Err c.in_err-grow_side-in-Some.field-0.0) x c.parts.counter
    c.grow_side.new.counter) same
    (with_its_sharing c.args.spot.now c.with_sharing-below.result c.below.result
    c.with_sharing-below.ensures (λ σ' steps h. Built weighted_of
    (Err c.in_err-grow_side-in-Some.field-0.0) (draft_grown σ' (grown σ' steps)
    (resolution q L β number) h) c.parts.counter c.grow_side.new.counter)
    c.in_err-grow_side-in-Some.ensures))

pub grow_side_parts-parts-smaller : goal.grow_side_parts-parts-smaller
grow_side_parts-parts-smaller g t c =
    let below =
    is_place (template_parts (template_of c.args.side.now.term.now)) c.parts.i
    (template_of c.in-Some.term.now) c.in-Some.ensures.part in
    omega (arith, below)

pub grow_side_parts-parts-preserved : goal.grow_side_parts-parts-preserved
grow_side_parts-parts-preserved g t c =
    let σ = setting_at c.args.spot.now in
    let here = context_at c.args.spot.now in
    let grow = grown σ c.args.spot.now.steps in
    let side = c.args.side.now in
    let p = template_of side.term.now in
    let L = locals_in side.bound.now in
    let β = bindings_in side.bound.now in
    let k = head_kind c.args.head in
    let q = template_of c.in-Some.term.now in
    let number = c.part_number.result in
    let stands =
    part_stands σ c.args.head k c.parts.i here.scope (sharing_of c.args.spot.now.sharing)
    (sharing_of c.below.result) refl c.below.ensures in
    let there : Context = record {
      scope = here.scope;
      sharing = sharing_of c.below.result;
    } in
    let same : draft_grown σ grow (resolution q L β number) there
    ≡ side_part σ grow here k L β (λ i. part_number p L β i side.number) c.parts.i q =
    λ i. draft_grown σ grow (resolution q L β (c.part_number.ensures.number i))
    (sym stands i) in
    let built =
    subst (λ x. (weighted_of c.in_ok-grow_side-in-Some.field-0 ≡ numbered x c.parts.counter.next)
    × Took c.parts.counter c.grow_side.new.counter (picks x) (size x)) same
    (with_its_sharing c.args.spot.now c.with_sharing-below.result c.below.result
    c.with_sharing-below.ensures
    (λ σ' steps h. let w = draft_grown σ' (grown σ' steps) (resolution q L β number) h in
    (weighted_of c.in_ok-grow_side-in-Some.field-0 ≡ numbered w c.parts.counter.next)
    × Took c.parts.counter c.grow_side.new.counter (picks w) (size w))
    c.in_ok-grow_side-in-Some.ensures) in
    front_next (draft_parts_grown σ grow here (draft_at side))
    (side_part σ grow here k L β (λ i. part_number p L β i side.number)) (template_parts p)
    c.parts.i (c.parts.i + 1) q (weighted_of c.in_ok-grow_side-in-Some.field-0)
    (map weighted_of c.parts.made.items) (map weighted_of c.push.new.self.items)
    c.args.counter.now c.parts.counter c.grow_side.new.counter (omega arith)
    c.in-Some.ensures.part c.parts.invariant built.0 built.1
    (ap (map weighted_of) c.in_ok-push-in-Some.ensures.items
    ∙ map-append weighted_of c.parts.made.items (c.in_ok-grow_side-in-Some.field-0 ∷ []))
