use Rattle.std.proofs.Common.{ap, ◌∙◌}
use Rattle.eml_match.specs.MatchViews.{bindings_of}
use Rattle.eml_match.specs.Resolutions.{locals_for}
use Rattle.eml_match.proofs.Places.{if_ok}
use Rattle.eml_instances.specs.Scopes.{scope_of}
use Rattle.eml_instances.specs.Substitutions.{locals_kept}
use Rattle.eml_instances.proofs.listing.substitution_of.Goals as goal

pub returns-clause-bindings : goal.returns-clause-bindings
returns-clause-bindings g c =
    if_ok c.with_locals.result (λ x h. h ∙ ap bindings_of c.as_slice.ensures.value)
    c.with_locals.ensures.bindings

pub returns-clause-locals : goal.returns-clause-locals
returns-clause-locals g c =
    let σ =
    scope_of (g.K.Known.gives c.args.scope.now.known.now) c.args.scope.now.scopes.now.funcs.now
    c.args.scope.now.number in
    if_ok c.with_locals.result
    (λ x h. h ∙ ap (λ bs. locals_kept c.args.all (locals_for σ bs)) (ap bindings_of
    c.as_slice.ensures.value))
    c.with_locals.ensures.locals
