use Rattle.std.proofs.Common.{◌≡◌, ◌∙◌, ap, sym, refl, arith, ℕ, suc, ◌+◌, ◌*◌, ◌^◌, subst, take, length}
use Rattle.std.proofs.lemmas.Option.{slice_get_read}
use Rattle.std.proofs.lemmas.List.{length-map}
use Rattle.bit_words.specs.Logic.{extends_trans}
use Rattle.bit_words.specs.Words.{bit_value, nat_read}
use Rattle.bit_words.proofs.Kept.{owns_read}
use Rattle.bit_words.proofs.Naturals.{nat_more, power_double}
use Rattle.bit_lists.specs.Lists.{words_read}
use Rattle.bit_lists.specs.Moves.{IsMoved}
use Rattle.bit_lists.proofs.Moving.{step_more}
use Rattle.bit_lists.proofs.shifts.moved.Goals as goal

pub loop-i-preserved : goal.loop-i-preserved
loop-i-preserved g c =
    let needs = c.requires.1.1 in
    let reads = g.L.Logic.reads in
    let i = c.loop-i.i in
    let before = c.loop-i.invariant in
    let last = c.moved_where.ensures.extends in
    let at = slice_get_read c.args.number.now _ i c.index-number-i.result refl (omega arith) c.index-number-i.is in
    let next : i + 1 ≡ suc i = omega arith in
    let double : 2 ^ (i + 1) ≡ 2 ^ i + 2 ^ i = ap (λ (n : ℕ). 2 ^ n) next ∙ power_double i in
    record {
      by = omega (arith, double, before.by);
      extends = extends_trans before.extends last;
      made = c.in_ok-moved-2.ensures.made;
      many = c.in_ok-moved-2.ensures.many ∙ before.many;
      value = λ vs.
          let f = reads c.args.g.now vs in
          let old = words_read reads c.args.g.now vs c.args.items.now in
          let mid = words_read reads c.loop-i.g vs c.loop-i.moved in
          let new = words_read reads c.moved_where.new.g vs c.in_ok-moved-2.moved in
          let digit = before.extends.same _ (owns_read i needs.1.1.0 at) vs in
          let long : length c.loop-i.moved ≡ length old = simp length-map before.many in
          let more = nat_more f c.args.number.now i _ at in
          let by = ap (λ (b : ℕ). nat_read reads c.args.g.now vs (take i c.args.number.now) + b * bit_value (f c.index-number-i.result)) (sym before.by) in
          subst (λ (n : ℕ). IsMoved c.args.direction n old new) (sym (more ∙ by)) (step_more c.args.direction _ c.loop-i.by (f c.index-number-i.result) old mid new _ long (before.value vs) (rw digit at (c.in_ok-moved-2.ensures.value vs)));
    }
