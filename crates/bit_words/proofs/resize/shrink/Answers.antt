use Rattle.std.proofs.Common.{◌≡◌, ◌∙◌, ◌<◌, ◌+◌, ◌-◌, ◌^◌, ℕ, suc, ap, sym, subst, arith, length, Bool, List, not, true, map}
use Rattle.bit_words.specs.Logic.{OwnsAll, extends_refl, extends_trans}
use Rattle.bit_words.specs.Words.{int_of, int_read, is_within}
use Rattle.bit_words.proofs.Decided.{read_fits}
use Rattle.bit_words.proofs.Kept.{owns_kept, reads_kept}
use Rattle.bit_words.proofs.Naturals.{power_double}
use Rattle.bit_words.proofs.Signs.{narrow_more}
use Rattle.bit_words.proofs.resize.shrink.Given as given
use Rattle.bit_words.proofs.resize.shrink.Goals as goal

pub loop-init : goal.loop-init
loop-init g c =
    let same = c.in_ok-number.ensures in
    record {
      extends = extends_refl;
      owned = subst (OwnsAll g.L.Logic.owns c.args.g.now) (sym same) c.requires.owned;
      owned_over = c.constant-over.ensures.owned;
      width = let size = ap length same in omega arith;
      over = λ vs.
          let f = g.L.Logic.reads c.args.g.now vs in
          let size = ap length same in
          let fit = read_fits f c.args.word.now (length c.in_ok-number.number) (sym size) (omega (arith, c.requires.some)) in
          c.constant-over.ensures.value vs ∙ ap not (sym fit);
      value = λ vs fit. ap (λ w. int_of (map (g.L.Logic.reads c.args.g.now vs) w)) same;
    }

both : (g : given.Over) (c : goal.After-drop-number-inside-in-loop g) (vs : List Bool) →
    let z = int_read g.L.Logic.reads c.args.g.now vs c.args.word.now in
    (g.L.Logic.reads c.or.new.g vs c.in_ok-over.over ≡ not (is_within (2 ^ (length c.in_ok-low.low.word - 1)) z))
    × (is_within (2 ^ (length c.in_ok-low.low.word - 1)) z ≡ true → int_read g.L.Logic.reads c.or.new.g vs c.in_ok-low.low.word ≡ z)
both g c vs =
    let reads = g.L.Logic.reads in
    let before = c.loop.invariant in
    let z = int_read reads c.args.g.now vs c.args.word.now in
    let n : ℕ = length c.in_ok-low.low.word - 1 in
    let size : length c.loop.number - 1 ≡ length c.in_ok-low.low.word = omega (arith, c.in_ok-low.ensures.made.width, c.len-width.ensures) in
    let some : 0 < length c.in_ok-low.low.word = omega (arith, before.width, c.requires.some) in
    let width : c.len-width.result - 1 ≡ length c.in_ok-low.low.word = omega (arith, c.in_ok-low.ensures.made.width) in
    let next : length c.in_ok-low.low.word ≡ suc n = omega arith in
    let whole : 2 ^ (length c.loop.number - 1) ≡ 2 ^ n + 2 ^ n = ap (λ (k : ℕ). 2 ^ k) (size ∙ next) ∙ power_double n in
    let over = c.narrow.ensures.extends.same c.loop.over before.owned_over vs in
    let kept = ap int_of (reads_kept c.or.ensures.extends c.in_ok-low.ensures.made.owned vs) in
    let fit = narrow_more (2 ^ n) z (int_of (map (reads c.loop.g vs) c.loop.number)) (int_of (map (reads c.narrow.new.g vs) c.in_ok-low.low.word)) (reads c.loop.g vs c.loop.over) (reads c.narrow.new.g vs c.in_ok-low.low.over)
    (rw whole at (before.over vs)) (rw whole at (before.value vs)) (rw width at (c.in_ok-low.ensures.over vs)) (rw width at (c.in_ok-low.ensures.value vs)) in
    rw (c.in_ok-over.ensures.value vs, over, kept) fit

pub loop-preserved : goal.loop-preserved
loop-preserved g c =
    let before = c.loop.invariant in
    record {
      extends = extends_trans before.extends (extends_trans c.narrow.ensures.extends c.or.ensures.extends);
      owned = owns_kept c.or.ensures.extends c.in_ok-low.ensures.made.owned;
      owned_over = c.in_ok-over.ensures.owned;
      width = omega (arith, before.width, c.in_ok-low.ensures.made.width, c.len-width.ensures, c.requires.some);
      over = λ vs. (both g c vs).0;
      value = λ vs. (both g c vs).1;
    }
