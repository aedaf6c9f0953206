use Rattle.std.proofs.Common.{FitsSigned, rules, w32, ap, ◌∙◌, take, drop}
use Rattle.std.proofs.lemmas.Int.{to_z-of_z}
use Rattle.input_space.specs.Cases.{SpellsNumber}
use Rattle.input_space.specs.Pieces.{number_len}
use Rattle.input_space.proofs.Extents.{numbers_cut}
use Rattle.input_space.proofs.Rows.{goes_first, goes_last, goes_next, goes_none, goes_stuck, has_some, is_nil, is_not_nil}
use Rattle.input_space.proofs.reading.read_numbers.Goals as goal

pub pieces-init : goal.pieces-init
pieces-init c =
    rw c.new-numbers.ensures.items (goes_first SpellsNumber number_len numbers_cut c.args.text.now (has_some c.args.text.now c.if-is_empty.ensures))

pub returns-in_default : goal.returns-in_default
returns-in_default c =
    let front = c.split_at.ensures.front ∙ ap (λ n. take n c.pieces.rest.now) c.number_len.ensures.same in
    let back = c.split_at.ensures.back ∙ ap (λ n. drop n c.pieces.rest.now) c.number_len.ensures.same in
    goes_none SpellsNumber number_len numbers_cut c.args.text.now c.pieces.numbers.items c.pieces.rest.now _ _ c.pieces.invariant front back c.in_default.ensures

pub returns-then-is_empty-2 : goal.returns-then-is_empty-2
returns-then-is_empty-2 c =
    let front = c.split_at.ensures.front ∙ ap (λ n. take n c.pieces.rest.now) c.number_len.ensures.same in
    let back = c.split_at.ensures.back ∙ ap (λ n. drop n c.pieces.rest.now) c.number_len.ensures.same in
    let r : FitsSigned w32 c.in-Some.z = search rules in
    let items = simp to_z-of_z at c.in_ok-push.ensures.items in
    rw (c.from_vec-then-is_empty-2.ensures, items)
    (goes_last SpellsNumber number_len numbers_cut c.args.text.now c.pieces.numbers.items c.pieces.rest.now _ _ c.pieces.invariant front back c.in-Some.z c.in-Some.ensures (is_nil _ c.if-is_empty-2.ensures))

pub returns-in_default-after_comma : goal.returns-in_default-after_comma
returns-in_default-after_comma c =
    let front = c.split_at.ensures.front ∙ ap (λ n. take n c.pieces.rest.now) c.number_len.ensures.same in
    let back = c.split_at.ensures.back ∙ ap (λ n. drop n c.pieces.rest.now) c.number_len.ensures.same in
    goes_stuck SpellsNumber number_len numbers_cut c.args.text.now c.pieces.numbers.items c.pieces.rest.now _ _ c.pieces.invariant front back (is_not_nil _ c.if-is_empty-2.ensures) c.in_default-after_comma.ensures.behind

pub pieces-preserved : goal.pieces-preserved
pieces-preserved c =
    let front = c.split_at.ensures.front ∙ ap (λ n. take n c.pieces.rest.now) c.number_len.ensures.same in
    let back = c.split_at.ensures.back ∙ ap (λ n. drop n c.pieces.rest.now) c.number_len.ensures.same in
    let r : FitsSigned w32 c.in-Some.z = search rules in
    let items = simp to_z-of_z at c.in_ok-push.ensures.items in
    rw items (goes_next SpellsNumber number_len numbers_cut c.args.text.now c.pieces.numbers.items c.pieces.rest.now _ _ c.pieces.invariant front back c.in-Some.z _ c.in-Some.ensures c.in-Some-after_comma.ensures.behind)
