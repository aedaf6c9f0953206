use Rattle.std.proofs.Common.{◌≡◌, ◌≤◌, ◌∙◌, ap, subst, arith}
use Rattle.choice_tree.specs.RuleViews.{template_of}
use Rattle.eml_match.specs.MatchViews.{bindings_of}
use Rattle.eml_match.specs.Resolutions.{locals_for, resolution}
use Rattle.eml_instances.specs.Alternatives.{alternative_seen}
use Rattle.eml_instances.specs.Substitutions.{bindings_in, locals_in}
use Rattle.eml_rewrite.specs.LeastSizes.{draft_least}
use Rattle.eml_rewrite.specs.Spots.{context_at}
use Rattle.eml_rewrite.proofs.Alternatives.{same_count}
use Rattle.eml_rewrite.proofs.least_size.count_member.Goals as goal

pub count_side-requires : goal.count_side-requires
count_side-requires g c =
    let σ = (context_at c.args.spot.now).scope in
    let a = c.args.a.now in
    let β = c.in_ok-bound.ensures.bindings ∙ ap bindings_of c.as_slice.ensures.value in
    let L =
    c.in_ok-bound.ensures.locals
    ∙ ap (λ bs. locals_for σ (bindings_of bs)) c.as_slice.ensures.value in
    record {
      below =
          same_count (template_of a.side.now) a.number _ _ _ _ L β c.requires.0;
      small = c.requires.1;
      deep = omega arith;
    }

pub returns : goal.returns
returns g c = λ least h.
    let σ = (context_at c.args.spot.now).scope in
    let a = c.args.a.now in
    let β = c.in_ok-bound.ensures.bindings ∙ ap bindings_of c.as_slice.ensures.value in
    let L =
    c.in_ok-bound.ensures.locals
    ∙ ap (λ bs. locals_for σ (bindings_of bs)) c.as_slice.ensures.value in
    let same : resolution (template_of a.side.now) (locals_in c.in_ok-bound.bound)
    (bindings_in c.in_ok-bound.bound) a.number ≡ (alternative_seen σ a).draft =
    λ i. resolution (template_of a.side.now) (L i) (β i) a.number in
    subst (λ d. c.count_side.result ≤ draft_least least d) same (c.count_side.ensures least h)
