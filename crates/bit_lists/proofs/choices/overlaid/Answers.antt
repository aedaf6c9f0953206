use Rattle.std.proofs.Common.{◌≡◌, ◌∙◌, ap, sym, refl, arith, length, length-append, false, map, get_or, ℕ}
use Rattle.std.specs.Prelude.{◌&&◌, ◌||◌}
use Rattle.std.proofs.lemmas.List.{length-map}
use Rattle.bit_words.specs.Logic.{extends_trans}
use Rattle.bit_words.proofs.Kept.{owns_kept, owns_push, owns_read, reads_kept, value_read}
use Rattle.bit_lists.proofs.Decoding.{overlaid_is}
use Rattle.bit_lists.proofs.Reading.{push_read}
use Rattle.bit_lists.proofs.choices.overlaid.Goals as goal

pub loop-i-preserved : goal.loop-i-preserved
loop-i-preserved g c =
    let reads = g.L.Logic.reads in
    let i = c.loop-i.i in
    let before = c.loop-i.invariant in
    let one = c.and.ensures.extends in
    let both = extends_trans one c.or.ensures.extends in
    record {
      extends = extends_trans before.extends both;
      owned = owns_push (owns_kept both before.owned) c.in_ok-digit.ensures.owned c.in_ok-push.ensures.ok;
      many = ap length c.in_ok-push.ensures.ok ∙ simp (length-append) (omega (arith, before.many));
      value = λ vs.
          let f = reads c.args.g.now vs in
          let test = before.extends.same _ c.requires.test vs in
          let digit = before.extends.same _ (owns_read _ c.requires.word c.at.ensures) vs ∙ sym (value_read f c.args.word.now i _ c.at.ensures) in
          let under = (extends_trans before.extends one).same _ (owns_read _ c.requires.under c.at-in-loop-i.ensures) vs ∙ sym (value_read f c.args.under.now i _ c.at-in-loop-i.ensures) in
          let kept = rw (test, digit) at (c.in_ok-both.ensures.value vs) in
          push_read (reads c.loop-i.g vs) (reads c.or.new.g vs) false _ _ _ i
          (λ (k : ℕ). get_or (map f c.args.under.now) k false || (f c.args.test && get_or (map f c.args.word.now) k false))
          before.many (reads_kept both before.owned vs) (before.value vs) (rw (under, kept) at (c.in_ok-digit.ensures.value vs)) c.in_ok-push.ensures.ok;
    }

pub returns-clause-value : goal.returns-clause-value
returns-clause-value g c vs zeros =
    let reads = g.L.Logic.reads in
    let before = c.loop-i.invariant in
    let long : length (map (reads c.loop-i.g vs) c.loop-i.overlaid) ≡ length c.loop-i.overlaid = simp length-map refl in
    let wide : length (map (reads c.args.g.now vs) c.args.word.now) ≡ length c.args.word.now = simp length-map refl in
    let alike : length (map (reads c.args.g.now vs) c.args.under.now) ≡ length c.args.under.now = simp length-map refl in
    overlaid_is (reads c.args.g.now vs c.args.test) _ _ _ (length c.args.word.now) (omega (arith, before.many)) wide (alike ∙ c.requires.alike) zeros (λ k h. before.value vs k (omega arith))
