use Rattle.std.proofs.Common.{◌∙◌, ap, not, arith, List}
use Rattle.std.specs.Prelude.{ℤ, pos}
use Rattle.std.specs.Int.Signed.{lt_z}
use Rattle.bit_words.specs.Logic.{extends_trans}
use Rattle.bit_words.specs.Words.{int_of, int_read, is_negative, nat_of}
use Rattle.bit_words.proofs.Kept.{owns_kept, reads_kept}
use Rattle.bit_lists.proofs.Held.{word_kept}
use Rattle.bit_lists.proofs.items.is_outside.Goals as goal

pub wide_length-requires : goal.wide_length-requires
wide_length-requires g c = record { wide = omega (arith, c.len.ensures, c.in_ok-wide.ensures.made.width); len = word_kept c.wide_index.ensures.extends c.requires.len }

pub less-requires : goal.less-requires
less-requires g c =
    let wide = c.in_ok-wide.ensures.made in
    let number = c.in_ok-number.ensures.made in
    record {
      some = omega (arith, wide.width);
      alike = number.width ∙ c.len.ensures;
      left = owns_kept c.wide_length.ensures.extends wide.owned;
      right = number.owned;
    }

pub sign_of-negative-requires : goal.sign_of-negative-requires
sign_of-negative-requires g c =
    let until = extends_trans (extends_trans c.wide_index.ensures.extends c.wide_length.ensures.extends) c.less.ensures.extends in
    record { some = c.requires.wide; word = owns_kept until c.requires.place }

pub returns-clause-value : goal.returns-clause-value
returns-clause-value g c vs =
    let reads = g.L.Logic.reads in
    let one = c.wide_index.ensures.extends in
    let two = c.wide_length.ensures.extends in
    let until = extends_trans (extends_trans one two) c.less.ensures.extends in
    let index = ap int_of (reads_kept two c.in_ok-wide.ensures.made.owned vs) ∙ c.in_ok-wide.ensures.value vs in
    let number = c.in_ok-number.ensures.value vs ∙ ap (λ (w : List _). pos (nat_of w)) (reads_kept one c.requires.len.owned vs) in
    let within = c.in_ok-within.ensures.value vs ∙ ap (λ (z : ℤ). lt_z z (int_read reads c.wide_length.new.g vs c.in_ok-number.number)) index ∙ ap (lt_z (int_read reads c.args.g.now vs c.args.index.now)) number in
    let past = c.not-past.ensures.value vs ∙ ap not within in
    let negative = c.sign_of-negative.ensures.value vs ∙ ap (λ (w : List _). is_negative (int_of w)) (reads_kept until c.requires.place vs) in
    rw (negative, past) at (c.in_ok-outside.ensures.value vs)
