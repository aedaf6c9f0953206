use Rattle.std.proofs.Common.{◌∙◌, ◌≤◌, arith, length, min, ◌||◌, ◌&&◌}
use Rattle.bit_words.specs.Logic.{extends_refl, extends_trans}
use Rattle.bit_words.proofs.Kept.{owns_read}
use Rattle.sym_cost.proofs.Counted.{counts_kept}
use Rattle.sym_cost.proofs.Unary.{counted, reach_end, reach_first, reach_step}
use Rattle.sym_cost.proofs.counters.sum_reaches.Goals as goal

pub loop-i-init : goal.loop-i-init
loop-i-init g c = record {
  extends = extends_refl;
  owned = c.reaches-reached.ensures.owned;
  value = λ vs bound m n less h k.
      c.reaches-reached.ensures.value vs bound n less k
      ∙ reach_first (g.L.Logic.reads c.args.g.now vs) c.args.b.now bound c.args.number m n _ less k
      (omega arith);
}

pub loop-i-preserved : goal.loop-i-preserved
loop-i-preserved g c =
    let reads = g.L.Logic.reads in
    let i = c.loop-i.i in
    let number = c.args.number in
    let before = c.loop-i.invariant in
    let one = c.and.ensures.extends in
    let two = c.or.ensures.extends in
    record {
      extends = extends_trans before.extends (extends_trans one two);
      owned = c.in_ok-reached.ensures.owned;
      value = λ vs bound m n less h k.
          let old = reads c.args.g.now vs in
          let bit = c.at-first.result in
          let first = before.extends.same bit (owns_read i c.requires.left c.at-first.ensures) vs
          ∙ counted old c.args.a.now bound m i bit h c.at-first.ensures in
          let second = c.reaches-second.ensures.value vs bound n (omega (arith, less))
          (counts_kept before.extends c.requires.right vs bound n k) in
          let both = c.in_ok-both.ensures.value vs ∙ (λ j. first j && second j) in
          let so_far = one.same c.loop-i.reached before.owned vs
          ∙ before.value vs bound m n less h k in
          c.in_ok-reached.ensures.value vs ∙ (λ j. so_far j || both j)
          ∙ reach_step number m n i (omega arith);
    }

pub returns-clause-value : goal.returns-clause-value
returns-clause-value g c vs bound m n less h k =
    let end : min c.args.number (length c.args.a.now) ≤ c.loop-i.i = omega arith in
    c.loop-i.invariant.value vs bound m n less h k
    ∙ reach_end (g.L.Logic.reads c.args.g.now vs) c.args.a.now bound c.args.number m n c.loop-i.i
    less h end
