use Rattle.std.proofs.Common.{◌≡◌, ◌<◌, ◌∙◌, ap, sym, length, map, arith, cond}
use Rattle.std.specs.Prelude.{ℤ, pos, ◌+ℤ◌, neg_ℤ}
use Rattle.std.proofs.lemmas.Int.{ints}
use Rattle.std.proofs.lemmas.List.{length-map}
use Rattle.bit_words.specs.Bits.{differ}
use Rattle.bit_words.specs.Logic.{extends_trans}
use Rattle.bit_words.specs.Words.{bit_value, int_of}
use Rattle.bit_words.proofs.Integers.{int_zeros}
use Rattle.bit_words.proofs.Signs.{flipped_int}
use Rattle.bit_words.proofs.magnitude.turn_where.Goals as goal

drop_zero : (x y : ℤ) → x +ℤ pos 0 +ℤ y ≡ x +ℤ y
drop_zero x y = omega (arith, ints)

pub returns-in_err-flipped-clause-extends : goal.returns-in_err-flipped-clause-extends
returns-in_err-flipped-clause-extends g c = c.flip_where.ensures.extends

pub returns-in_err-nothing-clause-extends : goal.returns-in_err-nothing-clause-extends
returns-in_err-nothing-clause-extends g c = c.flip_where.ensures.extends

pub signed_sum-requires : goal.signed_sum-requires
signed_sum-requires g c = record {
  some = omega (arith, c.in_ok-flipped.ensures.made.width);
  alike = c.in_ok-nothing.ensures.made.width ∙ c.len-width.ensures ∙ sym c.in_ok-flipped.ensures.made.width;
  left = c.in_ok-flipped.ensures.made.owned;
  right = c.in_ok-nothing.ensures.made.owned;
  carry = c.flip_where.ensures.extends.kept _ c.requires.test;
}

pub returns-in_err-turned-clause-extends : goal.returns-in_err-turned-clause-extends
returns-in_err-turned-clause-extends g c = extends_trans c.flip_where.ensures.extends c.signed_sum.ensures.extends

pub returns-clause-extends : goal.returns-clause-extends
returns-clause-extends g c = extends_trans c.flip_where.ensures.extends c.signed_sum.ensures.extends

pub returns-clause-value : goal.returns-clause-value
returns-clause-value g c vs fit =
    let reads = g.L.Logic.reads in
    let first = reads c.args.g.now vs in
    let bits = map first c.args.a.now in
    let test = first c.args.test in
    let some : 0 < length bits = simp length-map c.requires.some in
    let kept = c.flip_where.ensures.extends.same _ c.requires.test vs in
    let flipped = ap int_of (c.in_ok-flipped.ensures.value vs) in
    let nothing = ap int_of (c.in_ok-nothing.ensures.value vs) ∙ int_zeros c.len-width.result in
    let z : int_of (map (reads c.flip_where.new.g vs) c.in_ok-flipped.flipped) +ℤ int_of (map (reads c.flip_where.new.g vs) c.in_ok-nothing.nothing) +ℤ pos (bit_value (reads c.flip_where.new.g vs c.args.test)) ≡ cond test (neg_ℤ (int_of bits)) (int_of bits)
    = rw (kept, flipped, nothing) (drop_zero (int_of (map (differ test) bits)) (pos (bit_value test)) ∙ flipped_int test bits some) in
    c.in_ok-turned.ensures.value vs (rw (c.in_ok-flipped.ensures.made.width, z) fit) ∙ z

pub returns-clause-made : goal.returns-clause-made
returns-clause-made g c = record {
  owned = c.in_ok-turned.ensures.made.owned;
  width = c.in_ok-turned.ensures.made.width ∙ c.in_ok-flipped.ensures.made.width;
}
