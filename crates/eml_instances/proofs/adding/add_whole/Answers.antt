use Rattle.std.proofs.Common.{◌≡◌, ◌+◌, ◌<◌, ◌≤◌, length, refl, ◌∙◌, arith}
use Rattle.choice_tree.specs.Drafts.{proposal, resolutions}
use Rattle.choice_tree.specs.RuleViews.{template_of}
use Rattle.eml_match.specs.Resolutions.{count, locals_for, resolution}
use Rattle.eml_instances.specs.Alternatives.{has_type, proposals_of}
use Rattle.eml_instances.specs.Resolving.{stopped}
use Rattle.eml_instances.specs.Searches.{rule_in, scope_in}
use Rattle.eml_instances.proofs.AlternativeLists.{all_tried, at_mapped, mapped_length, none_tried}
use Rattle.eml_instances.proofs.AlternativeLists.{one_tried, too_many}
use Rattle.eml_instances.proofs.adding.add_whole.Goals as goal

pub loop-number-init : goal.loop-number-init
loop-number-init g c =
    let s = c.args.search.now in
    let σ = scope_in g.K.Known.gives s in
    none_tried σ (has_type σ s.wanted.ty) (rule_in s) (template_of c.args.side.now)
    c.args.before.items s.wanted.most c.requires.before

pub is_typed-requires-clause-numbered : goal.is_typed-requires-clause-numbered
is_typed-requires-clause-numbered g c =
    let s = c.args.search.now in
    let σ = scope_in g.K.Known.gives s in
    let m = rule_in s in
    let p = template_of c.args.side.now in
    let many : c.count-count.result ≡ stopped (count p (locals_for σ m.bindings) m.bindings) =
    c.count-count.ensures
    ∙ (λ i. stopped (count p (c.requires.search.locals i) (c.requires.search.bindings i))) in
    (omega (arith, many), omega (arith, many), c.requires.deep)

pub is_typed-requires-clause-locals : goal.is_typed-requires-clause-locals
is_typed-requires-clause-locals g c = c.requires.search.locals

pub is_typed-requires-clause-bindings : goal.is_typed-requires-clause-bindings
is_typed-requires-clause-bindings g c = c.requires.search.bindings

pub loop-number-preserved : goal.loop-number-preserved
loop-number-preserved g c =
    let s = c.args.search.now in
    let σ = scope_in g.K.Known.gives s in
    let m = rule_in s in
    let p = template_of c.args.side.now in
    let L = locals_for σ m.bindings in
    let r = c.loop-number.number in
    let many : c.count-count.result ≡ stopped (count p L m.bindings) =
    c.count-count.ensures
    ∙ (λ i. stopped (count p (c.requires.search.locals i) (c.requires.search.bindings i))) in
    let below : r < count p L m.bindings = omega (arith, many) in
    let near : r < 64000064 = omega (arith, many) in
    let at =
    at_mapped (proposal m.rule m.cost) (resolutions σ m.bindings p) r (resolution p L m.bindings r)
    (c.resolutions_by_number.ensures.resolved p σ m.bindings r below) in
    one_tried σ (has_type σ s.wanted.ty) m p c.args.before.items c.loop-number.found.items
    c.in-Some.more c.in_ok-added.added _ s.wanted.most r (r + 1) c.in_ok-typed.typed
    c.loop-number.invariant (omega arith) refl at (below, near, c.requires.deep)
    c.in_ok-typed.ensures c.in-Some.is c.in_ok-added.ensures

pub returns-in-None : goal.returns-in-None
returns-in-None g c =
    let s = c.args.search.now in
    let σ = scope_in g.K.Known.gives s in
    let m = rule_in s in
    let p = template_of c.args.side.now in
    let L = locals_for σ m.bindings in
    let r = c.loop-number.number in
    let many : c.count-count.result ≡ stopped (count p L m.bindings) =
    c.count-count.ensures
    ∙ (λ i. stopped (count p (c.requires.search.locals i) (c.requires.search.bindings i))) in
    let below : r < count p L m.bindings = omega (arith, many) in
    let at =
    at_mapped (proposal m.rule m.cost) (resolutions σ m.bindings p) r (resolution p L m.bindings r)
    (c.resolutions_by_number.ensures.resolved p σ m.bindings r below) in
    too_many σ (has_type σ s.wanted.ty) m p c.args.before.items c.loop-number.found.items
    c.in_ok-added.added _ s.wanted.most r c.in_ok-typed.typed c.loop-number.invariant at
    c.in_ok-typed.ensures c.in-None.is c.in_ok-added.ensures

pub returns : goal.returns
returns g c =
    let s = c.args.search.now in
    let σ = scope_in g.K.Known.gives s in
    let m = rule_in s in
    let p = template_of c.args.side.now in
    let L = locals_for σ m.bindings in
    let many : c.count-count.result ≡ stopped (count p L m.bindings) =
    c.count-count.ensures
    ∙ (λ i. stopped (count p (c.requires.search.locals i) (c.requires.search.bindings i))) in
    let all = c.resolutions_by_number.ensures.counted p σ m.bindings in
    let same = mapped_length (proposal m.rule m.cost) (resolutions σ m.bindings p) in
    let ended : length (proposals_of σ m p) ≤ c.loop-number.number = omega (arith, many, all, same)
    in (
      all_tried σ (has_type σ s.wanted.ty) m p c.args.before.items c.loop-number.found.items
          s.wanted.most c.loop-number.number c.loop-number.invariant ended,
      c.loop-number.invariant.numbered,
      c.loop-number.invariant.among,
      c.loop-number.invariant.few,
    )
