use Rattle.std.proofs.Common.{◌<◌, ◌≤◌, length, subst}
use Rattle.std.proofs.lemmas.List.{drop_all, take_rest}
use Rattle.input_space.specs.Inputs.{inputs}
use Rattle.input_space.proofs.Blocks.{Leads, leads_first, leads_last}
use Rattle.input_space.proofs.Orders.{value_next, value_place}
use Rattle.input_space.proofs.places.case_at.Goals as goal

pub loop-k-init : goal.loop-k-init
loop-k-init c =
    rw c.new-values.ensures.items (leads_first 1000000000000 (inputs c.args.b.now.params) c.args.i c.requires.within c.requires.counted)

pub nonzero_div-rest : goal.nonzero_div-rest
nonzero_div-rest c =
    let ps = c.args.b.now.params in
    let s = simp (take_rest, c.items-params.ensures) at c.count_of-block.ensures in
    let e = rw c.items-params.ensures at c.index-params-k.is in
    let h : c.loop-k.k < length ps = subst (λ qs. c.loop-k.k < length qs) c.items-params.ensures c.loop-k-test.true in
    (value_place 1000000000000 _ _ _ ps c.loop-k.k c.loop-k.rest c.count_of-block.result _ h e c.loop-k.invariant s).some

pub value_at-requires : goal.value_at-requires
value_at-requires c =
    let ps = c.args.b.now.params in
    let s = simp (take_rest, c.items-params.ensures) at c.count_of-block.ensures in
    let e = rw c.items-params.ensures at c.index-params-k.is in
    let h : c.loop-k.k < length ps = subst (λ qs. c.loop-k.k < length qs) c.items-params.ensures c.loop-k-test.true in
    let r = value_place 1000000000000 _ _ _ ps c.loop-k.k c.loop-k.rest c.count_of-block.result _ h e c.loop-k.invariant s in
    record { within = r.block; counted = r.few }

pub nonzero_rem-rest : goal.nonzero_rem-rest
nonzero_rem-rest c =
    let ps = c.args.b.now.params in
    let s = simp (take_rest, c.items-params.ensures) at c.count_of-block.ensures in
    let e = rw c.items-params.ensures at c.index-params-k.is in
    let h : c.loop-k.k < length ps = subst (λ qs. c.loop-k.k < length qs) c.items-params.ensures c.loop-k-test.true in
    (value_place 1000000000000 _ _ _ ps c.loop-k.k c.loop-k.rest c.count_of-block.result _ h e c.loop-k.invariant s).some

pub loop-k-preserved : goal.loop-k-preserved
loop-k-preserved c =
    let ps = c.args.b.now.params in
    let s = simp (take_rest, c.items-params.ensures) at c.count_of-block.ensures in
    let e = rw c.items-params.ensures at c.index-params-k.is in
    let h : c.loop-k.k < length ps = subst (λ qs. c.loop-k.k < length qs) c.items-params.ensures c.loop-k-test.true in
    rw c.in_ok-push.ensures.items
    (value_next 1000000000000 _ _ _ ps c.loop-k.k c.loop-k.rest c.count_of-block.result _ h e c.loop-k.invariant s c.in_ok-value_at.field-0 c.in_ok-value_at.ensures)

pub returns : goal.returns
returns c =
    let ps = c.args.b.now.params in
    let past : length ps ≤ c.loop-k.k = subst (λ qs. length qs ≤ c.loop-k.k) c.items-params.ensures c.loop-k-test.false in
    rw c.from_vec.ensures
    (leads_last 1000000000000 (inputs ps) c.args.i _ c.loop-k.rest (subst (λ qs. Leads 1000000000000 (inputs ps) c.args.i c.loop-k.values.items (inputs qs) c.loop-k.rest) (drop_all c.loop-k.k ps past) c.loop-k.invariant))
