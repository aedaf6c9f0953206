use Rattle.std.proofs.Common.{◌≡◌, ◌∙◌, ◌-◌, ◌^◌, arith}
use Rattle.bit_words.specs.Logic.{extends_trans}
use Rattle.bit_words.proofs.Kept.{owns_read}
use Rattle.bit_words.proofs.Naturals.{nat_more}
use Rattle.bit_words.proofs.Integers.{less_step, less_top, int_split, nat_taken_below}
use Rattle.bit_words.proofs.compare.less.Goals as goal

pub loop-i-preserved : goal.loop-i-preserved
loop-i-preserved g c =
    let reads = g.L.Logic.reads in
    let i = c.loop-i.i in
    let before = c.loop-i.invariant in
    let step = c.less_digit.ensures.extends in
    record {
      extends = extends_trans before.extends step;
      owned = c.in_ok-below.ensures.owned;
      value = λ vs.
          let first = reads c.args.g.now vs in
          let x = before.extends.same _ (owns_read _ c.requires.left c.at-left.ensures) vs in
          let y = before.extends.same _ (owns_read _ c.requires.right c.at-right.ensures) vs in
          let now = rw (x, y) at (c.in_ok-below.ensures.value vs) in
          let left = nat_more first c.args.a.now i c.at-left.result c.at-left.ensures in
          let right = nat_more first c.args.b.now i c.at-right.result c.at-right.ensures in
          rw (now, left, right) (less_step (2 ^ i) _ _ (first c.at-left.result) (first c.at-right.result) (reads c.loop-i.g vs c.loop-i.below) (nat_taken_below first c.args.a.now i (omega arith)) (nat_taken_below first c.args.b.now i (omega arith)) (before.value vs));
    }

pub less_sign-requires-clause-left : goal.less_sign-requires-clause-left
less_sign-requires-clause-left g c = c.loop-i.invariant.extends.kept _ (owns_read _ c.requires.left c.at-first.ensures)

pub less_sign-requires-clause-right : goal.less_sign-requires-clause-right
less_sign-requires-clause-right g c = c.loop-i.invariant.extends.kept _ (owns_read _ c.requires.right c.at-second.ensures)

pub returns-clause-value : goal.returns-clause-value
returns-clause-value g c vs =
    let reads = g.L.Logic.reads in
    let first = reads c.args.g.now vs in
    let top = c.len-top.result - 1 in
    let before = c.loop-i.invariant in
    let here : c.loop-i.i ≡ top = omega arith in
    let x = before.extends.same _ (owns_read _ c.requires.left c.at-first.ensures) vs in
    let y = before.extends.same _ (owns_read _ c.requires.right c.at-second.ensures) vs in
    let left = int_split first c.args.a.now top c.at-first.result c.at-first.ensures (omega arith) in
    let right = int_split first c.args.b.now top c.at-second.result c.at-second.ensures (omega arith) in
    rw (x, y) at (c.in_ok-lower.ensures.value vs)
    ∙ less_top (2 ^ top) _ _ (first c.at-first.result) (first c.at-second.result) (reads c.loop-i.g vs c.loop-i.below) _ _ (nat_taken_below first c.args.a.now top (omega arith)) (nat_taken_below first c.args.b.now top (omega arith))
    (rw here at (before.value vs)) left right

pub less_digit-requires : goal.less_digit-requires
less_digit-requires g c = record { left = c.loop-i.invariant.extends.kept _ (owns_read _ c.requires.left c.at-left.ensures); right = c.loop-i.invariant.extends.kept _ (owns_read _ c.requires.right c.at-right.ensures); before = c.loop-i.invariant.owned }

pub returns-in_err-below-clause-extends : goal.returns-in_err-below-clause-extends
returns-in_err-below-clause-extends g c = extends_trans c.loop-i.invariant.extends c.less_digit.ensures.extends

pub less_sign-requires-clause-before : goal.less_sign-requires-clause-before
less_sign-requires-clause-before g c = c.loop-i.invariant.owned

pub returns-in_err-lower-clause-extends : goal.returns-in_err-lower-clause-extends
returns-in_err-lower-clause-extends g c = extends_trans c.loop-i.invariant.extends c.less_sign.ensures.extends

pub returns-clause-extends : goal.returns-clause-extends
returns-clause-extends g c = extends_trans c.loop-i.invariant.extends c.less_sign.ensures.extends

pub returns-clause-owned : goal.returns-clause-owned
returns-clause-owned g c = c.in_ok-lower.ensures.owned
