use Rattle.std.proofs.Common.{◌+◌, ◌≤◌, map, length, sym, subst, arith}
use Rattle.std.specs.Prelude.{filter}
use Rattle.mpy_tree.specs.View.{term_of}
use Rattle.mpy_tree.specs.Shapes.{shape}
use Rattle.choice_tree.specs.Growing.{is_alternative}
use Rattle.eml_match.specs.MatchedRules.{matched_of}
use Rattle.eml_instances.specs.Alternatives.{AddsTo, has_type, proposals_of}
use Rattle.eml_instances.specs.Scopes.{scope_of}
use Rattle.eml_instances.proofs.AlternativeLists.{Looked, all_looked, at_item, mapped_length}
use Rattle.eml_instances.proofs.AlternativeLists.{none_looked, one_looked, too_many_looked}
use Rattle.eml_instances.proofs.listing.alternatives.Goals as goal

pub loop-m-init : goal.loop-m-init
loop-m-init g c =
    let σ =
    scope_of (g.K.Known.gives c.args.scope.now.known.now) c.args.scope.now.scopes.now.funcs.now
    c.args.scope.now.number in
    let f = is_alternative σ (shape (term_of c.args.e.now)) in
    let ms = map matched_of c.args.matched.now in
    subst (λ xs. Looked σ f ms xs c.args.most 0) (sym c.new-found.ensures.items)
    (none_looked σ f ms c.args.most)

pub loop-m-preserved : goal.loop-m-preserved
loop-m-preserved g c =
    let σ =
    scope_of (g.K.Known.gives c.args.scope.now.known.now) c.args.scope.now.scopes.now.funcs.now
    c.args.scope.now.number in
    let t = shape (term_of c.args.e.now) in
    let ms = map matched_of c.args.matched.now in
    let m = matched_of c.m-item.result in
    let now = c.loop-m.found.items in
    let here =
    at_item matched_of c.args.matched.now c.loop-m.m-index c.m-item.result
    (omega (arith, c.loop-m-test.true)) c.m-item.is in
    let adds : AddsTo c.in_ok-added.added c.args.most σ m now (filter (is_alternative σ t)
    (proposals_of σ m m.right)) =
    subst
    (λ o. AddsTo c.in_ok-added.added c.args.most σ m now (filter (has_type σ o)
    (proposals_of σ m m.right)))
    c.type_there-ty.ensures c.in_ok-added.ensures in
    one_looked σ (is_alternative σ t) ms now c.in-Some.more c.in_ok-added.added m c.args.most
    c.loop-m.m-index (c.loop-m.m-index + 1) c.loop-m.invariant (omega arith) here c.in-Some.is adds

pub returns-in-None : goal.returns-in-None
returns-in-None g c =
    let σ =
    scope_of (g.K.Known.gives c.args.scope.now.known.now) c.args.scope.now.scopes.now.funcs.now
    c.args.scope.now.number in
    let t = shape (term_of c.args.e.now) in
    let ms = map matched_of c.args.matched.now in
    let m = matched_of c.m-item.result in
    let now = c.loop-m.found.items in
    let here =
    at_item matched_of c.args.matched.now c.loop-m.m-index c.m-item.result
    (omega (arith, c.loop-m-test.true)) c.m-item.is in
    let adds : AddsTo c.in_ok-added.added c.args.most σ m now (filter (is_alternative σ t)
    (proposals_of σ m m.right)) =
    subst
    (λ o. AddsTo c.in_ok-added.added c.args.most σ m now (filter (has_type σ o)
    (proposals_of σ m m.right)))
    c.type_there-ty.ensures c.in_ok-added.ensures in
    too_many_looked σ (is_alternative σ t) ms now c.in_ok-added.added m c.args.most
    c.loop-m.m-index c.loop-m.invariant here c.in-None.is adds

pub add_typed-requires : goal.add_typed-requires
add_typed-requires g c = c.loop-m.invariant.numbered

pub returns : goal.returns
returns g c =
    let σ =
    scope_of (g.K.Known.gives c.args.scope.now.known.now) c.args.scope.now.scopes.now.funcs.now
    c.args.scope.now.number in
    let t = shape (term_of c.args.e.now) in
    let ms = map matched_of c.args.matched.now in
    let same = mapped_length matched_of c.args.matched.now in
    let ended : length ms ≤ c.loop-m.m-index = omega (arith, same) in (
      all_looked σ (is_alternative σ t) ms c.loop-m.found.items c.args.most c.loop-m.m-index
          c.loop-m.invariant ended,
      c.loop-m.invariant.numbered,
      c.loop-m.invariant.among,
      c.loop-m.invariant.few,
    )
