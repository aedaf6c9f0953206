use Rattle.std.proofs.Common.{◌≡◌, ◌∙◌, ◌+◌, ◌≤◌, arith, ap, min, length, length-append}
use Rattle.std.proofs.lemmas.List.{length-map}
use Rattle.bit_words.specs.Logic.{extends_trans}
use Rattle.bit_words.proofs.Kept.{owns_kept, owns_push, reads_kept}
use Rattle.bit_words.proofs.Pushes.{push_read}
use Rattle.sym_cost.proofs.Counted.{counts_kept, counts_whole}
use Rattle.sym_cost.proofs.Unary.{above_more, counter_more}
use Rattle.sym_cost.proofs.counters.counters_sum.Goals as goal

pub loop-i-preserved : goal.loop-i-preserved
loop-i-preserved g c =
    let reads = g.L.Logic.reads in
    let i = c.loop-i.i in
    let bound = c.args.bound in
    let before = c.loop-i.invariant in
    let step = c.sum_reaches.ensures.extends in
    let within : i + 1 ≤ bound = omega (arith, c.width_within-width.ensures) in
    record {
      extends = extends_trans before.extends step;
      owned = owns_push (owns_kept step before.owned) c.in_ok-reached.ensures.owned
          c.in_ok-push.ensures.ok;
      width = ap length c.in_ok-push.ensures.ok ∙ simp (length-append) (omega arith);
      value = λ vs m n h k.
          let left = counts_kept before.extends c.requires.left vs bound m h in
          let right = counts_kept before.extends c.requires.right vs bound n k in
          let bit = c.in_ok-reached.ensures.value vs bound m n within left right
          ∙ above_more i (m + n) in
          push_read (reads c.loop-i.g vs) (reads c.sum_reaches.new.g vs) _ _ _ _ _ (reads_kept step
          before.owned vs) (before.value vs m n h k) bit c.in_ok-push.ensures.ok
          ∙ counter_more i (m + n);
    }

pub returns-clause-value : goal.returns-clause-value
returns-clause-value g c vs m n h k =
    let old = g.L.Logic.reads c.args.g.now vs in
    let before = c.loop-i.invariant in
    let a = length-map c.args.a.now old in
    let b = length-map c.args.b.now old in
    let first = h.1 in
    let second = k.1 in
    let whole : c.loop-i.i ≡ min c.args.bound (length c.args.a.now + length c.args.b.now) =
    omega (arith, c.width_within-width.ensures) in
    counts_whole (g.L.Logic.reads c.loop-i.g vs) c.loop-i.sum c.args.bound (m + n) c.loop-i.i
    before.width (before.value vs m n h k) (omega (arith, a, b, first, second, whole))

pub returns-clause-made : goal.returns-clause-made
returns-clause-made g c = record {
  owned = c.loop-i.invariant.owned;
  width = omega (arith, c.loop-i.invariant.width, c.width_within-width.ensures);
}
