use Rattle.std.proofs.Common.{◌≡◌, ◌∙◌, ℕ, ◌+◌, ◌*◌, sym, subst, arith, refl, length, map}
use Rattle.bit_words.specs.Logic.{keeps_trans}
use Rattle.bit_words.specs.Later.{AddsVariables, adds_keeps, adds_trans, owned_later}
use Rattle.sym_values.specs.Later.{words_later}
use Rattle.sym_values.specs.Owned.{owns_one_more}
use Rattle.sym_values.proofs.Held.{pushed_read}
use Rattle.sym_values.proofs.Paddings.{alike_more}
use Rattle.input_bits.proofs.LaidOut.{words_from_more}
use Rattle.input_bits.proofs.fresh.fresh_words.Goals as goal

pub loop-preserved : goal.loop-preserved
loop-preserved g c =
    let v = g.V.Logic in
    let before = c.loop.invariant in
    let keeps = c.fresh_word.ensures.keeps in
    let made = c.in_ok-word.ensures.made in
    let n = c.loop.counter in
    let width = c.args.width in
    let step : n * width + width ≡ (n + 1) * width = omega arith in
    let place : v.count c.loop.g ≡ v.count c.args.g.now + n * width = before.adds.variables in
    record {
      adds = subst (λ (k : ℕ). AddsVariables v.owns v.reads v.count k c.args.g.now c.fresh_word.new.g) step (adds_trans before.adds c.in_ok-word.ensures.adds);
      owned = owns_one_more (λ w. w) c.loop.words _ c.in_ok-word.word (owned_later keeps before.owned) made.owned c.in_ok-push.ensures.ok;
      widths = pushed_read length length c.loop.words _ c.in_ok-word.word _ _ refl before.widths made.width c.in_ok-push.ensures.ok ∙ sym (alike_more n width);
      value = λ vs.
          pushed_read (map (v.reads c.loop.g vs)) (map (v.reads c.fresh_word.new.g vs)) c.loop.words _ c.in_ok-word.word _ _ (words_later keeps c.loop.words before.owned vs) (before.value vs) (rw place at (c.in_ok-word.ensures.value vs)) c.in_ok-push.ensures.ok
          ∙ sym (words_from_more vs (v.count c.args.g.now) width n);
    }

pub returns-in_err-word-clause-keeps : goal.returns-in_err-word-clause-keeps
returns-in_err-word-clause-keeps g c = keeps_trans (adds_keeps c.loop.invariant.adds) c.fresh_word.ensures.keeps
