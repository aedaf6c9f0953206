use Rattle.std.proofs.Common.{◌≡◌, ◌+◌, false, ap, sym, ◌∙◌, arith}
use Rattle.choice_tree.specs.Drafts.{filled}
use Rattle.choice_tree.specs.RuleViews.{template_of}
use Rattle.choice_tree.specs.Typing.{same_type, type_of}
use Rattle.eml_match.specs.Resolutions.{count, locals_for, resolution}
use Rattle.eml_instances.specs.Resolving.{stopped}
use Rattle.eml_instances.specs.Searches.{rule_in, scope_in}
use Rattle.eml_instances.specs.Substitutions.{bindings_in, locals_in, locals_kept}
use Rattle.eml_instances.proofs.AlternativeLists.{below_next, none_typed}
use Rattle.eml_instances.proofs.adding.may_have.Goals as goal

pub loop-number-preserved : goal.loop-number-preserved
loop-number-preserved g c =
    let s = c.args.search.now in
    let σ = scope_in g.K.Known.gives s in
    let p = template_of c.args.side.now in
    let here : same_type (type_of σ (filled (resolution p (locals_in c.in_ok-s.s)
    (bindings_in c.in_ok-s.s) c.loop-number.number))) s.wanted.ty ≡ false =
    sym (c.same_type.ensures ∙ ap (λ o. same_type o s.wanted.ty) c.in_ok-found.ensures)
    ∙ c.if-same_type.false in
    below_next
    (λ q. same_type (type_of σ (filled (resolution p (locals_in c.in_ok-s.s)
    (bindings_in c.in_ok-s.s) q))) s.wanted.ty ≡ false)
    c.loop-number.number (c.loop-number.number + 1) (omega arith) c.loop-number.invariant here

pub returns : goal.returns
returns g c =
    let s = c.args.search.now in
    let σ = scope_in g.K.Known.gives s in
    let m = rule_in s in
    let p = template_of c.args.side.now in
    let K = locals_kept false (locals_for σ m.bindings) in
    let many : c.count-firsts.result ≡ stopped (count p K m.bindings) =
    c.count-firsts.ensures
    ∙ (λ i. stopped (count p (c.in_ok-s.ensures.locals i) (c.in_ok-s.ensures.bindings i))) in
    λ e.
    none_typed σ s.wanted.ty m p c.resolutions_by_number.ensures.counted
    c.resolutions_by_number.ensures.resolved
    (λ q below.
    (λ i. same_type (type_of σ (filled (resolution p (sym c.in_ok-s.ensures.locals i)
    (sym c.in_ok-s.ensures.bindings i) q))) s.wanted.ty)
    ∙ c.loop-number.invariant q (omega (arith, many, below)))
