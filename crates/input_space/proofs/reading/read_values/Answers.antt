use Rattle.std.proofs.Common.{ap, ◌∙◌, take, drop}
use Rattle.input_space.specs.Cases.{SpellsValue}
use Rattle.input_space.specs.Pieces.{value_len}
use Rattle.input_space.proofs.ValueExtents.{values_cut}
use Rattle.input_space.proofs.Rows.{goes_first, goes_last, goes_next, goes_none, goes_stuck, has_some, is_nil, is_not_nil}
use Rattle.input_space.proofs.reading.read_values.Goals as goal

pub pieces-init : goal.pieces-init
pieces-init c =
    rw c.new-values.ensures.items (goes_first SpellsValue value_len values_cut c.args.text.now (has_some c.args.text.now c.if-is_empty.ensures))

pub returns-in_default : goal.returns-in_default
returns-in_default c =
    let front = c.split_at.ensures.front ∙ ap (λ n. take n c.pieces.rest.now) c.value_len.ensures.same in
    let back = c.split_at.ensures.back ∙ ap (λ n. drop n c.pieces.rest.now) c.value_len.ensures.same in
    goes_none SpellsValue value_len values_cut c.args.text.now c.pieces.values.items c.pieces.rest.now _ _ c.pieces.invariant front back (rw c.in_default.is at c.in_ok-v.ensures)

pub returns-then-is_empty-2 : goal.returns-then-is_empty-2
returns-then-is_empty-2 c =
    let front = c.split_at.ensures.front ∙ ap (λ n. take n c.pieces.rest.now) c.value_len.ensures.same in
    let back = c.split_at.ensures.back ∙ ap (λ n. drop n c.pieces.rest.now) c.value_len.ensures.same in
    let items = c.in_ok-push.ensures.items in
    rw (c.from_vec-then-is_empty-2.ensures, items)
    (goes_last SpellsValue value_len values_cut c.args.text.now c.pieces.values.items c.pieces.rest.now _ _ c.pieces.invariant front back c.in-Some.v (rw c.in-Some.is at c.in_ok-v.ensures) (is_nil _ c.if-is_empty-2.ensures))

pub returns-in_default-after_comma : goal.returns-in_default-after_comma
returns-in_default-after_comma c =
    let front = c.split_at.ensures.front ∙ ap (λ n. take n c.pieces.rest.now) c.value_len.ensures.same in
    let back = c.split_at.ensures.back ∙ ap (λ n. drop n c.pieces.rest.now) c.value_len.ensures.same in
    goes_stuck SpellsValue value_len values_cut c.args.text.now c.pieces.values.items c.pieces.rest.now _ _ c.pieces.invariant front back (is_not_nil _ c.if-is_empty-2.ensures) c.in_default-after_comma.ensures.behind

pub pieces-preserved : goal.pieces-preserved
pieces-preserved c =
    let front = c.split_at.ensures.front ∙ ap (λ n. take n c.pieces.rest.now) c.value_len.ensures.same in
    let back = c.split_at.ensures.back ∙ ap (λ n. drop n c.pieces.rest.now) c.value_len.ensures.same in
    let items = c.in_ok-push.ensures.items in
    rw items (goes_next SpellsValue value_len values_cut c.args.text.now c.pieces.values.items c.pieces.rest.now _ _ c.pieces.invariant front back c.in-Some.v _ (rw c.in-Some.is at c.in_ok-v.ensures) c.in-Some-after_comma.ensures.behind)
