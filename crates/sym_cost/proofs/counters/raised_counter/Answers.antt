use Rattle.std.proofs.Common.{◌≡◌, ◌∙◌, ◌+◌, arith, ap, refl, min, length, length-append}
use Rattle.std.proofs.lemmas.List.{length-map}
use Rattle.bit_words.proofs.Kept.{owns_push}
use Rattle.bit_words.proofs.Pushes.{push_read}
use Rattle.sym_cost.proofs.Counted.{counts_whole}
use Rattle.sym_cost.proofs.Unary.{counter_more}
use Rattle.sym_cost.proofs.counters.raised_counter.Goals as goal

pub loop-i-preserved : goal.loop-i-preserved
loop-i-preserved g c =
    let i = c.loop-i.i in
    let before = c.loop-i.invariant in
    record {
      owned = owns_push before.owned c.raised_bit-bit.ensures.owned c.in_ok-push.ensures.ok;
      width = ap length c.in_ok-push.ensures.ok ∙ simp (length-append) (omega arith);
      value = λ vs n h.
          let f = g.L.Logic.reads c.args.g.now vs in
          push_read f f _ _ _ _ _ refl (before.value vs n h) (c.raised_bit-bit.ensures.value vs
          c.args.bound n h) c.in_ok-push.ensures.ok ∙ counter_more i (c.args.number + n);
    }

pub returns-clause-value : goal.returns-clause-value
returns-clause-value g c vs n h =
    let rd = g.L.Logic.reads c.args.g.now vs in
    let before = c.loop-i.invariant in
    let long = length-map c.args.counter.now rd in
    let few = h.1 in
    let whole : c.loop-i.i ≡ min c.args.bound (c.args.number + length c.args.counter.now) =
    omega (arith, c.width_within-width.ensures) in
    counts_whole rd c.loop-i.raised c.args.bound (c.args.number + n) c.loop-i.i before.width
    (before.value vs n h) (omega (arith, long, few, whole))

pub returns-clause-made : goal.returns-clause-made
returns-clause-made g c = record {
  owned = c.loop-i.invariant.owned;
  width = omega (arith, c.loop-i.invariant.width, c.width_within-width.ensures);
}
