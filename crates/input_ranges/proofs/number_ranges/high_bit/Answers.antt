use Rattle.std.proofs.Common.{◌≡◌, ◌∙◌, ap, arith, drop, length, map, refl, subst, sym, true, w32}
use Rattle.std.specs.List.{list_all}
use Rattle.std.proofs.lemmas.Int.{to_z-of_z}
use Rattle.std.proofs.lemmas.List.{length-map}
use Rattle.std.proofs.lemmas.Option.{slice_get_read}
use Rattle.bit_words.specs.Words.{int_of, is_negative}
use Rattle.input_ranges.specs.Bits.{is_bit}
use Rattle.input_ranges.proofs.HighBits.{behind_sign, int_high, none_high}
use Rattle.input_ranges.proofs.Between.{between_within, negative, not_negative}
use Rattle.input_ranges.proofs.number_ranges.high_bit.Goals as goal

pub returns-then-width-digits-clause-right : goal.returns-then-width-digits-clause-right
returns-then-width-digits-clause-right g c vs h =
    let f = g.L.Logic.reads c.args.g.now vs in
    none_high _ (length c.args.word.now) (map f c.args.word.now) (let e = length-map c.args.word.now f in omega arith)

pub returns-then-is_below_zero-clause-right : goal.returns-then-is_below_zero-clause-right
returns-then-is_below_zero-clause-right g c vs h =
    let f = g.L.Logic.reads c.args.g.now vs in
    let xs = map f c.args.word.now in
    let d = c.digits_within-digits.result in
    let low = rw (to_z-of_z w32 c.args.low c.ranges.low) at c.digits_within-digits.ensures.low in
    let high = rw (to_z-of_z w32 c.args.high c.ranges.high) at c.digits_within-digits.ensures.high in
    let below = sym (c.if-is_below_zero.ensures ∙ ap is_negative (to_z-of_z w32 c.args.high c.ranges.high)) in
    let all = int_high d xs (between_within _ c.args.low c.args.high (int_of xs) low high h) in
    subst (λ t. list_all (is_bit t) (drop d xs) ≡ true) (negative c.args.low c.args.high (int_of xs) below h ∙ sym (c.constant-bit-then-is_below_zero.ensures.value vs)) all

pub returns-then-is_below_zero-2-clause-right : goal.returns-then-is_below_zero-2-clause-right
returns-then-is_below_zero-2-clause-right g c vs h =
    let f = g.L.Logic.reads c.args.g.now vs in
    let xs = map f c.args.word.now in
    let d = c.digits_within-digits.result in
    let low = rw (to_z-of_z w32 c.args.low c.ranges.low) at c.digits_within-digits.ensures.low in
    let high = rw (to_z-of_z w32 c.args.high c.ranges.high) at c.digits_within-digits.ensures.high in
    let all = int_high d xs (between_within _ c.args.low c.args.high (int_of xs) low high h) in
    let at = slice_get_read c.args.word.now _ d c.index-word-digits.result refl (omega arith) c.index-word-digits.is in
    behind_sign f c.args.word.now d c.index-word-digits.result _ at all

pub returns-clause-right : goal.returns-clause-right
returns-clause-right g c vs h =
    let f = g.L.Logic.reads c.args.g.now vs in
    let xs = map f c.args.word.now in
    let d = c.digits_within-digits.result in
    let low = rw (to_z-of_z w32 c.args.low c.ranges.low) at c.digits_within-digits.ensures.low in
    let high = rw (to_z-of_z w32 c.args.high c.ranges.high) at c.digits_within-digits.ensures.high in
    let above = sym (c.if-is_below_zero-2.ensures ∙ ap is_negative (to_z-of_z w32 c.args.low c.ranges.low)) in
    let all = int_high d xs (between_within _ c.args.low c.args.high (int_of xs) low high h) in
    subst (λ t. list_all (is_bit t) (drop d xs) ≡ true) (not_negative c.args.low c.args.high (int_of xs) above h ∙ sym (c.constant-bit-2.ensures.value vs)) all
