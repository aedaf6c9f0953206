use Rattle.std.proofs.Common.{◌≡◌, ◌∙◌, ap, sym, refl, arith, List, map, not, take, length}
use Rattle.std.specs.Prelude.{ℤ, pos}
use Rattle.std.specs.Int.Signed.{lt_z}
use Rattle.std.proofs.lemmas.List.{length-map, take-map}
use Rattle.bit_words.specs.Logic.{extends_trans}
use Rattle.bit_words.specs.Words.{int_of, int_read, is_negative, nat_of, nat_read}
use Rattle.bit_words.proofs.Integers.{nat_read_below}
use Rattle.bit_words.proofs.Kept.{owns_kept, owns_taken, reads_kept}
use Rattle.bit_lists.proofs.Cutting.{clamped_is}
use Rattle.bit_lists.proofs.Held.{word_is, word_kept}
use Rattle.bit_lists.proofs.Joining.{length_taken}
use Rattle.bit_lists.proofs.slices.clamped.Goals as goal

pub wide_length-requires : goal.wide_length-requires
wide_length-requires g c = record { wide = omega (arith, c.len.ensures, c.requires.wide); len = c.requires.limit }

pub less-requires : goal.less-requires
less-requires g c =
    let most = c.in_ok-most.ensures.made in
    record {
      some = omega (arith, most.width, c.len.ensures, c.requires.wide);
      alike = sym (most.width ∙ c.len.ensures);
      left = most.owned;
      right = owns_kept c.wide_length.ensures.extends c.requires.number;
    }

pub sign_of-negative-requires : goal.sign_of-negative-requires
sign_of-negative-requires g c =
    let until = extends_trans c.wide_length.ensures.extends c.less.ensures.extends in
    record { some = omega (arith, c.requires.wide); word = owns_kept until c.requires.number }

pub mask-requires : goal.mask-requires
mask-requires g c =
    let until = extends_trans c.wide_length.ensures.extends c.less.ensures.extends in
    let low = word_is c.in_ok-low.ensures (record { owned = owns_taken 5 (owns_kept until c.requires.number); width = length_taken 5 c.args.number.now (omega (arith, c.requires.wide)) }) in
    record { test = c.not-some.ensures.owned; word = low.owned }

pub choose_bits-requires : goal.choose_bits-requires
choose_bits-requires g c =
    let until = extends_trans (extends_trans c.wide_length.ensures.extends c.less.ensures.extends) c.mask.ensures.extends in
    let limit = word_is c.as_slice.ensures (word_kept until c.requires.limit) in
    let low : length c.in_ok-low.low ≡ 5 = ap length c.in_ok-low.ensures ∙ length_taken 5 c.args.number.now (omega (arith, c.requires.wide)) in
    let kept = word_is c.as_slice-2.ensures c.in_ok-kept.ensures.made in
    record { test = c.mask.ensures.extends.kept _ c.in_ok-past.ensures.owned; alike = kept.width ∙ low ∙ sym limit.width; yes = limit.owned; no = kept.owned }

pub returns-clause-made : goal.returns-clause-made
returns-clause-made g c =
    let made = c.in_ok-end.ensures.made in
    record { owned = made.owned; width = made.width ∙ ap length c.as_slice.ensures ∙ c.requires.limit.width }

pub returns-clause-value : goal.returns-clause-value
returns-clause-value g c vs =
    let reads = g.L.Logic.reads in
    let f = reads c.args.g.now vs in
    let one = c.wide_length.ensures.extends in
    let two = c.less.ensures.extends in
    let three = c.mask.ensures.extends in
    let until = extends_trans one two in
    let some : length (map f c.args.number.now) ≡ length c.args.number.now = simp length-map refl in
    let most = c.in_ok-most.ensures.value vs in
    let number = ap int_of (reads_kept one c.requires.number vs) in
    let past = three.same _ c.in_ok-past.ensures.owned vs ∙ c.in_ok-past.ensures.value vs ∙ ap (λ (z : ℤ). lt_z z (int_read reads c.wide_length.new.g vs c.args.number.now)) most
    ∙ ap (lt_z (pos (nat_read reads c.args.g.now vs c.args.limit.now))) number in
    let positive = c.not-some.ensures.value vs ∙ ap not (c.sign_of-negative.ensures.value vs ∙ ap (λ (w : List _). is_negative (int_of w)) (reads_kept until c.requires.number vs)) in
    let low = ap (map (reads c.less.new.g vs)) c.in_ok-low.ensures ∙ sym (take-map (reads c.less.new.g vs) 5 c.args.number.now) ∙ ap (take 5) (reads_kept until c.requires.number vs) in
    let kept = ap (map (reads c.mask.new.g vs)) c.as_slice-2.ensures ∙ c.in_ok-kept.ensures.value vs in
    let limit = ap (λ (w : List _). nat_of (map (reads c.mask.new.g vs) w)) c.as_slice.ensures ∙ ap nat_of (reads_kept (extends_trans until three) c.requires.limit.owned vs) in
    clamped_is (int_read reads c.args.g.now vs c.args.number.now) (map f c.args.number.now) _ _ _ _ _ _ _ (omega (arith, c.requires.wide)) refl (nat_read_below f c.args.limit.now 5 c.requires.limit.width)
    past positive low kept limit (c.in_ok-end.ensures.value vs)
