use Rattle.std.proofs.Common.{◌∙◌, ap, arith, eqb, get_or, sym}
use Rattle.std.proofs.lemmas.List.Folds.{list_any_more}
use Rattle.bit_words.specs.Logic.{extends_trans}
use Rattle.bit_words.specs.Words.{nat_of, nat_read}
use Rattle.bit_words.proofs.Kept.{reads_kept}
use Rattle.input_ranges.proofs.CharacterDigits.{or_same, turned}
use Rattle.input_ranges.proofs.alphabets.among.Goals as goal

pub loop-character-preserved : goal.loop-character-preserved
loop-character-preserved g c =
    let reads = g.L.Logic.reads in
    let before = c.loop-character.invariant in
    let first = c.equal_number.ensures.extends in
    let last = c.or.ensures.extends in
    let i = c.loop-character.character-index in
    let alphabet = c.args.alphabet.now in
    record {
      extends = extends_trans before.extends (extends_trans first last);
      owned = c.in_ok-any.ensures.owned;
      value = λ vs.
          let n = nat_read reads c.args.g.now vs c.args.word.now in
          let kept = ap nat_of (reads_kept before.extends c.requires.owned vs) in
          let is = c.in_ok-is.ensures.value vs ∙ ap (λ k. eqb k (get_or alphabet i 0)) kept ∙ turned n (get_or alphabet i 0) in
          let still = first.same c.loop-character.any before.owned vs ∙ before.value vs in
          c.in_ok-any.ensures.value vs ∙ or_same _ _ _ _ still is ∙ sym (list_any_more (λ d. eqb d n) alphabet i 0 (omega arith));
    }
