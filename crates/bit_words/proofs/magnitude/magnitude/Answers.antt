use Rattle.std.proofs.Common.{◌≡◌, ◌∙◌, ap, length, map, arith}
use Rattle.std.proofs.lemmas.List.{length-map, take_all}
use Rattle.bit_words.specs.Words.{nat_of}
use Rattle.bit_words.proofs.Integers.{nat_read_below}
use Rattle.bit_words.proofs.Signs.{magnitude_is, nat_zeros}
use Rattle.bit_words.specs.Logic.{extends_trans}
use Rattle.bit_words.proofs.magnitude.magnitude.Goals as goal

pub returns-clause-value : goal.returns-clause-value
returns-clause-value g c vs =
    let reads = g.L.Logic.reads in
    let first = reads c.args.g.now vs in
    let last = reads c.carry_sum.new.g vs in
    let width = c.len-width.result in
    let bits = map first c.args.a.now in
    let size : length bits ≡ width = simp length-map (omega arith) in
    let left = take_all width c.in_ok-flipped.flipped (omega (arith, c.in_ok-flipped.ensures.made.width)) in
    let right = take_all width c.in_ok-nothing.nothing (omega (arith, c.in_ok-nothing.ensures.made.width)) in
    let nothing = ap nat_of (c.in_ok-nothing.ensures.value vs) ∙ nat_zeros width in
    let sign = c.flip_where.ensures.extends.same _ c.sign_of-sign.ensures.owned vs in
    let total = rw (left, right, nothing, c.in_ok-flipped.ensures.value vs, sign) at (c.in_ok-size.ensures.total vs) in
    let below = nat_read_below last c.in_ok-size.size width c.in_ok-size.ensures.width in
    magnitude_is bits (first c.sign_of-sign.result) (last c.in_ok-size.field-0-1) (nat_of (map last c.in_ok-size.size)) (rw size (omega arith)) (c.sign_of-sign.ensures.value vs)
    (rw size below) (rw size (total ∙ omega arith))

pub flip_where-requires : goal.flip_where-requires
flip_where-requires g c = record { test = c.sign_of-sign.ensures.owned; word = c.requires.word }

pub returns-in_err-flipped-clause-extends : goal.returns-in_err-flipped-clause-extends
returns-in_err-flipped-clause-extends g c = c.flip_where.ensures.extends

pub returns-in_err-nothing-clause-extends : goal.returns-in_err-nothing-clause-extends
returns-in_err-nothing-clause-extends g c = c.flip_where.ensures.extends

pub carry_sum-requires-clause-left : goal.carry_sum-requires-clause-left
carry_sum-requires-clause-left g c = c.in_ok-flipped.ensures.made.owned

pub carry_sum-requires-clause-right : goal.carry_sum-requires-clause-right
carry_sum-requires-clause-right g c = c.in_ok-nothing.ensures.made.owned

pub carry_sum-requires-clause-carry : goal.carry_sum-requires-clause-carry
carry_sum-requires-clause-carry g c = c.flip_where.ensures.extends.kept _ c.sign_of-sign.ensures.owned

pub returns-in_err-size-clause-extends : goal.returns-in_err-size-clause-extends
returns-in_err-size-clause-extends g c = extends_trans c.flip_where.ensures.extends c.carry_sum.ensures.extends

pub returns-clause-extends : goal.returns-clause-extends
returns-clause-extends g c = extends_trans c.flip_where.ensures.extends c.carry_sum.ensures.extends

pub returns-clause-made : goal.returns-clause-made
returns-clause-made g c = record {
  owned = c.in_ok-size.ensures.owned;
  width = c.in_ok-size.ensures.width ∙ c.len-width.ensures;
}
