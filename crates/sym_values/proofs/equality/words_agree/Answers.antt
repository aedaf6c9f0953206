use Rattle.std.proofs.Common.{◌≡◌, ◌∙◌, arith, length, map}
use Rattle.bit_words.specs.Logic.{extends_trans}
use Rattle.bit_words.specs.Words.{nat_read}
use Rattle.sym_values.specs.Agreement.{same_digits}
use Rattle.sym_values.specs.Owned.{owns_one}
use Rattle.sym_values.proofs.Held.{owns_kept, reads_kept, same_at}
use Rattle.sym_values.proofs.Agreements.{agree_step, agree_whole, same_count}
use Rattle.sym_values.proofs.equality.words_agree.Goals as goal

pub agree_or_past-requires-clause-alike : goal.agree_or_past-requires-clause-alike
agree_or_past-requires-clause-alike g c = same_at length c.args.xs.now c.args.ys.now c.loop-i.i _ _ c.requires.alike c.at-x.ensures c.at-y.ensures

pub agree_or_past-requires-clause-len : goal.agree_or_past-requires-clause-len
agree_or_past-requires-clause-len g c = owns_kept c.loop-i.invariant.extends c.requires.len

pub agree_or_past-requires-clause-left : goal.agree_or_past-requires-clause-left
agree_or_past-requires-clause-left g c = owns_kept c.loop-i.invariant.extends (owns_one (λ w. w) c.args.xs.now c.loop-i.i c.at-x.result.now c.requires.left c.at-x.ensures)

pub agree_or_past-requires-clause-right : goal.agree_or_past-requires-clause-right
agree_or_past-requires-clause-right g c = owns_kept c.loop-i.invariant.extends (owns_one (λ w. w) c.args.ys.now c.loop-i.i c.at-y.result.now c.requires.right c.at-y.ensures)

pub loop-i-preserved : goal.loop-i-preserved
loop-i-preserved g c =
    let reads = g.L.Logic.reads in
    let before = c.loop-i.invariant in
    let one = c.agree_or_past.ensures.extends in
    let two = c.and.ensures.extends in
    let left_owned = owns_one (λ w. w) c.args.xs.now c.loop-i.i c.at-x.result.now c.requires.left c.at-x.ensures in
    let right_owned = owns_one (λ w. w) c.args.ys.now c.loop-i.i c.at-y.result.now c.requires.right c.at-y.ensures in
    record {
      extends = extends_trans (extends_trans before.extends one) two;
      owned = c.in_ok-alike.ensures.owned;
      value = λ vs.
          let start = reads c.args.g.now vs in
          let so_far = one.same _ before.owned vs ∙ before.value vs in
          let len = reads_kept before.extends c.requires.len vs in
          let left = reads_kept before.extends left_owned vs in
          let right = reads_kept before.extends right_owned vs in
          let fine = rw (len, left, right) at (c.in_ok-fine.ensures.value vs) in
          rw (so_far, fine) at (c.in_ok-alike.ensures.value vs)
          ∙ agree_step same_digits (map start) c.args.xs.now c.args.ys.now c.loop-i.i (nat_read reads c.args.g.now vs c.args.len.now) c.at-x.result.now c.at-y.result.now c.at-x.ensures c.at-y.ensures;
    }

pub returns-clause-extends : goal.returns-clause-extends
returns-clause-extends g c = c.loop-i.invariant.extends

pub returns-clause-owned : goal.returns-clause-owned
returns-clause-owned g c = c.loop-i.invariant.owned

pub returns-clause-value : goal.returns-clause-value
returns-clause-value g c vs =
    let start = g.L.Logic.reads c.args.g.now vs in
    let end : c.loop-i.i ≡ length c.args.xs.now = omega (arith, c.len-i-end.ensures) in
    c.loop-i.invariant.value vs
    ∙ agree_whole same_digits (map start) c.args.xs.now c.args.ys.now c.loop-i.i (nat_read g.L.Logic.reads c.args.g.now vs c.args.len.now) end (same_count c.args.xs.now c.args.ys.now c.requires.alike)
