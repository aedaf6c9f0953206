use Rattle.std.proofs.Common.{ℕ, ◌≤◌, ◌∙◌, IfOk, ap, filter, map, subst}
use Rattle.mpy_tree.specs.Shapes.{shape}
use Rattle.mpy_tree.specs.Trees.{Tree}
use Rattle.mpy_tree.specs.View.{term_of}
use Rattle.choice_tree.specs.Growing.{is_alternative}
use Rattle.eml_match.specs.MatchedRules.{matched_of, proposals_by, site_of}
use Rattle.eml_instances.specs.Alternatives.{AreAlternatives, alternative_seen}
use Rattle.eml_rewrite.specs.LeastSizes.{AreCounted, others_least}
use Rattle.eml_rewrite.specs.Spots.{context_at, setting_at}
use Rattle.eml_rewrite.proofs.Alternatives.{listed}
use Rattle.eml_rewrite.proofs.LeastSizes.{many_counted}
use Rattle.eml_rewrite.proofs.least_size.count_others.Goals as goal

pub returns-in-None : goal.returns-in-None
returns-in-None g c = λ least h.
    let here = context_at c.args.spot.now in
    let e = shape (term_of c.args.e.now) in
    let ms = map matched_of c.as_slice.result.now in
    let found : AreAlternatives c.in_ok-alternatives.field-0 1000000 here.scope ms
    (filter (is_alternative here.scope e) (proposals_by here.scope ms)) =
    c.in_ok-alternatives.ensures in
    let many =
    subst (λ o. AreAlternatives o 1000000 here.scope ms
    (filter (is_alternative here.scope e) (proposals_by here.scope ms))) c.in-None.is found in
    subst (λ ps. 1000001 ≤ others_least least ps)
    (listed (setting_at c.args.spot.now) (site_of c.args.site) here e ms
    (ap (map matched_of) c.as_slice.ensures.value ∙ c.in_ok-matched.ensures))
    (many_counted least h.some here.scope e (proposals_by here.scope ms) 1000000 many)

pub returns : goal.returns
returns g c =
    let here = context_at c.args.spot.now in
    let e = shape (term_of c.args.e.now) in
    let ms = map matched_of c.as_slice.result.now in
    let found : AreAlternatives c.in_ok-alternatives.field-0 1000000 here.scope ms
    (filter (is_alternative here.scope e) (proposals_by here.scope ms)) =
    c.in_ok-alternatives.ensures in
    let some =
    subst (λ o. AreAlternatives o 1000000 here.scope ms
    (filter (is_alternative here.scope e) (proposals_by here.scope ms))) c.in-Some.is found in
    subst (λ ps. IfOk c.count_members.result (λ n. (least : Tree → ℕ)
    → AreCounted least c.args.counted.now → n ≤ others_least least ps))
    (ap (map (alternative_seen here.scope)) c.as_slice-in-Some.ensures.value
    ∙ some.0
    ∙ listed (setting_at c.args.spot.now) (site_of c.args.site) here e ms
    (ap (map matched_of) c.as_slice.ensures.value ∙ c.in_ok-matched.ensures))
    c.count_members.ensures
