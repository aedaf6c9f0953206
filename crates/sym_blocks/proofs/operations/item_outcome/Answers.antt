use Rattle.std.proofs.Common.{ap, subst, sym, is_some}
use Rattle.bit_words.specs.Later.{owned_later}
use Rattle.bit_words.specs.Logic.{extends_keeps, extends_trans}
use Rattle.sym_values.specs.Later.{value_later}
use Rattle.sym_values.specs.Reading.{IsOutcome, Reading, read, spelled}
use Rattle.mpy_tree.specs.declared.typing.Ty.TheVariants as ty
use Rattle.mpy_tree.specs.Operations.{index}
use Rattle.sym_nodes.proofs.Typed.{typed_as}
use Rattle.sym_blocks.proofs.Outcomes.{two_is}
use Rattle.sym_blocks.proofs.TypedParts.{item_typed}
use Rattle.sym_blocks.proofs.operations.item_outcome.Goals as goal

pub index_value-requires-clause-list : goal.index_value-requires-clause-list
index_value-requires-clause-list g c = let h = typed_as c.args.limits.now ty.List c.args.list.now c.requires.list in record { owned = h.owned; form = h.form }

pub index_value-requires-clause-place : goal.index_value-requires-clause-place
index_value-requires-clause-place g c = let h = typed_as c.args.limits.now ty.Int c.args.place.now c.requires.place in record { owned = h.owned; form = h.form }

pub index_value-requires-clause-typed : goal.index_value-requires-clause-typed
index_value-requires-clause-typed g c = ap is_some (item_typed c.args.limits.now c.args.list.now.value c.args.place.now.value c.requires.list.form c.requires.place.form)

pub or-requires-clause-left : goal.or-requires-clause-left
or-requires-clause-left g c = c.index_value.ensures.extends.kept _ c.requires.list.owned_fault

pub or-requires-clause-right : goal.or-requires-clause-right
or-requires-clause-right g c = c.index_value.ensures.extends.kept _ c.requires.place.owned_fault

pub or-requires-2-clause-right : goal.or-requires-2-clause-right
or-requires-2-clause-right g c =
    let made = c.in_ok-made in
    let typed = item_typed c.args.limits.now c.args.list.now.value c.args.place.now.value c.requires.list.form c.requires.place.form in
    c.or.ensures.extends.kept _ (made.ensures.made ty.Int typed).owned_fault

pub returns-clause-extends : goal.returns-clause-extends
returns-clause-extends g c = extends_trans c.index_value.ensures.extends (extends_trans c.or.ensures.extends c.or-2.ensures.extends)

pub returns-clause-made : goal.returns-clause-made
returns-clause-made g c =
    let typed = item_typed c.args.limits.now c.args.list.now.value c.args.place.now.value c.requires.list.form c.requires.place.form in
    let made = c.in_ok-made.ensures.made ty.Int typed in
    let later = extends_trans c.or.ensures.extends c.or-2.ensures.extends in
    record { owned = owned_later (extends_keeps later) made.owned; owned_fault = c.in_ok-fault.ensures.owned; form = made.form }

pub returns-clause-value : goal.returns-clause-value
returns-clause-value g c vs line x y h k =
    let reads = g.L.Logic.reads in
    let start = reads c.args.g.now vs in
    let mid = reads c.index_value.new.g vs in
    let l = c.args.limits.now in
    let a = c.args.list.now in
    let b = c.args.place.now in
    let made = c.in_ok-made in
    let typed = item_typed c.args.limits.now c.args.list.now.value c.args.place.now.value c.requires.list.form c.requires.place.form in
    let held = made.ensures.made ty.Int typed in
    let later = extends_trans c.or.ensures.extends c.or-2.ensures.extends in
    let left = c.index_value.ensures.extends.same _ c.requires.list.owned_fault vs in
    let right = c.index_value.ensures.extends.same _ c.requires.place.owned_fault vs in
    let early = rw (left, right) at (c.in_ok-early.ensures.value vs) in
    let own = c.or.ensures.extends.same made.made.fault held.owned_fault vs in
    let fault = rw (early, own) at (c.in_ok-fault.ensures.value vs) in
    let same = ap spelled (value_later (extends_keeps later) made.made.value held.owned vs) in
    two_is (start a.fault) (start b.fault) (mid made.made.fault) _ (read start a.value) (read start b.value) _ x y line (index) h k
    (λ v w p q. subst (λ (r : Reading). IsOutcome (mid made.made.fault) r (index v w)) (sym same) (made.ensures.value vs v w p q)) fault
