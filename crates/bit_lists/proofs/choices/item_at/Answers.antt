use Rattle.std.proofs.Common.{◌∙◌, ap, sym, arith, ℕ, false}
use Rattle.std.specs.Prelude.{replicate}
use Rattle.bit_words.specs.Logic.{extends_refl, extends_trans}
use Rattle.bit_words.specs.Words.{nat_read}
use Rattle.bit_words.proofs.Kept.{owns_read, reads_kept, value_read}
use Rattle.bit_lists.specs.Lists.{word_at, words_read}
use Rattle.bit_lists.proofs.Decoding.{overlay_step}
use Rattle.bit_lists.proofs.Held.{word_as, word_kept, words_at}
use Rattle.bit_lists.proofs.Reading.{read_at}
use Rattle.bit_lists.proofs.choices.item_at.Goals as goal

pub overlaid-requires : goal.overlaid-requires
overlaid-requires g c =
    let needs = c.requires.1.1 in
    let before = c.loop-j.invariant in
    let until = extends_trans c.decoded.ensures.extends before.extends in
    let item = word_kept until (words_at c.loop-j.j needs.1.1 c.at-in-loop-j-2.ensures) in
    record {
      test = before.extends.kept _ (owns_read _ c.in_ok-places.ensures.made.owned c.at-in-loop-j.ensures);
      alike = before.made.width ∙ sym item.width;
      word = item.owned;
      under = before.made.owned;
    }

pub loop-j-preserved : goal.loop-j-preserved
loop-j-preserved g c =
    let needs = c.requires.1.1 in
    let reads = g.L.Logic.reads in
    let j = c.loop-j.j in
    let before = c.loop-j.invariant in
    let step = c.overlaid.ensures.extends in
    let until = extends_trans c.decoded.ensures.extends before.extends in
    let first = words_at j needs.1.1 c.at-in-loop-j-2.ensures in
    record {
      extends = extends_trans before.extends step;
      made = word_as first.width c.in_ok-item-2.ensures.made;
      value = λ vs h.
          let f = reads c.args.g.now vs in
          let read = value_read (reads c.decoded.new.g vs) c.in_ok-places.places j _ c.at-in-loop-j.ensures in
          let place = c.in_ok-places.ensures.value vs (omega (arith, c.len.ensures, h)) j (omega (arith, c.len.ensures, c.len-j-end.ensures)) in
          let test = before.extends.same _ (owns_read _ c.in_ok-places.ensures.made.owned c.at-in-loop-j.ensures) vs ∙ sym read ∙ place in
          let word = reads_kept until first.owned vs ∙ sym (read_at f c.args.items.now j _ c.at-in-loop-j-2.ensures) in
          overlay_step (word_at (words_read reads c.args.g.now vs c.args.items.now)) j (nat_read reads c.args.g.now vs c.args.number.now) _ _ _ _ (replicate g.width false) test word (before.value vs h)
          (λ zeros. c.in_ok-item-2.ensures.value vs (λ yes. zeros yes ∙ ap (λ (n : ℕ). replicate n false) (sym first.width)));
    }

pub loop-j-init : goal.loop-j-init
loop-j-init g c =
    let needs = c.requires.1.1 in
    let wide = c.len-2.ensures ∙ (words_at 0 needs.1.1 c.at.ensures).width in
    record {
      extends = extends_refl;
      made = word_as wide c.in_ok-item.ensures.made;
      value = λ vs h. (λ none. absurd (omega arith), λ some. c.in_ok-item.ensures.value vs ∙ ap (λ (n : ℕ). replicate n false) wide);
    }

pub returns-clause-value : goal.returns-clause-value
returns-clause-value g c vs h = (c.loop-j.invariant.value vs h).0 (omega (arith, c.len-j-end.ensures, h))
