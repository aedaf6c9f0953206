use Rattle.std.proofs.Common.{◌≡◌, ◌∙◌, ◌+◌, ap, sym, arith, List, length, refl}
use Rattle.std.specs.Prelude.{ℤ, pos, ◌+ℤ◌}
use Rattle.bit_words.specs.Logic.{extends_trans}
use Rattle.bit_words.specs.Words.{int_of, int_read, is_negative, nat_of, nat_read}
use Rattle.bit_words.proofs.Integers.{nat_read_below}
use Rattle.bit_words.proofs.Kept.{owns_kept, reads_kept}
use Rattle.bit_lists.specs.Places.{from_front}
use Rattle.bit_lists.proofs.Held.{word_kept}
use Rattle.bit_lists.proofs.Indexes.{added_as, added_is, holds_as, place_fits}
use Rattle.bit_lists.proofs.places.place.Goals as goal

pub wide_length-requires : goal.wide_length-requires
wide_length-requires g c = record { wide = omega (arith, c.len-width.ensures); len = word_kept c.wide_index.ensures.extends c.requires.len }

pub sign_of-negative-requires : goal.sign_of-negative-requires
sign_of-negative-requires g c = record { some = c.requires.some; word = owns_kept (extends_trans c.wide_index.ensures.extends c.wide_length.ensures.extends) c.requires.index }

pub choose_word-requires : goal.choose_word-requires
choose_word-requires g c =
    let nothing = c.in_ok-nothing.ensures.made in
    let number = c.in_ok-number.ensures.made in
    record { test = c.sign_of-negative.ensures.owned; alike = nothing.width ∙ sym number.width; yes = number.owned; no = nothing.owned }

pub add-requires : goal.add-requires
add-requires g c =
    let two = c.wide_length.ensures.extends in
    let wide = word_kept (extends_trans two c.choose_word.ensures.extends) c.in_ok-wide.ensures.made in
    let added = c.in_ok-added.ensures.made in
    record {
      some = omega (arith, wide.width);
      alike = omega (arith, wide.width, added.width, c.in_ok-number.ensures.made.width, c.len-width.ensures);
      left = wide.owned;
      right = added.owned;
    }

pub returns-clause-made : goal.returns-clause-made
returns-clause-made g c = record { owned = c.in_ok-sum.ensures.made.owned; width = c.in_ok-sum.ensures.made.width ∙ c.in_ok-wide.ensures.made.width }

pub returns-clause-value : goal.returns-clause-value
returns-clause-value g c vs =
    let reads = g.L.Logic.reads in
    let f = reads c.args.g.now vs in
    let one = c.wide_index.ensures.extends in
    let two = c.wide_length.ensures.extends in
    let three = c.choose_word.ensures.extends in
    let wide = ap int_of (reads_kept (extends_trans two three) c.in_ok-wide.ensures.made.owned vs) ∙ c.in_ok-wide.ensures.value vs in
    let negative = c.sign_of-negative.ensures.value vs ∙ ap (λ (w : List _). is_negative (int_of w)) (reads_kept (extends_trans one two) c.requires.index vs) in
    let number = c.in_ok-number.ensures.value vs ∙ ap (λ (w : List _). pos (nat_of w)) (reads_kept one c.requires.len.owned vs) in
    let added = added_as _ _ _ _ _ _ _ (c.in_ok-added.ensures.value vs) negative number (c.in_ok-nothing.ensures.value vs) in
    let total : int_read reads c.choose_word.new.g vs c.in_ok-wide.wide +ℤ int_read reads c.choose_word.new.g vs c.in_ok-added.added ≡ from_front (int_read reads c.args.g.now vs c.args.index.now) (nat_read reads c.args.g.now vs c.args.len.now) =
    ap (λ (z : ℤ). z +ℤ int_read reads c.choose_word.new.g vs c.in_ok-added.added) wide ∙ ap (λ (z : ℤ). int_read reads c.args.g.now vs c.args.index.now +ℤ z) added ∙ added_is (int_read reads c.args.g.now vs c.args.index.now) (nat_read reads c.args.g.now vs c.args.len.now) in
    holds_as _ _ _ (length c.in_ok-wide.wide) (length c.args.index.now + 6) (c.in_ok-sum.ensures.value vs) total c.in_ok-wide.ensures.made.width
    (place_fits f c.args.index.now _ _ refl c.requires.some (nat_read_below f c.args.len.now 5 c.requires.len.width))
