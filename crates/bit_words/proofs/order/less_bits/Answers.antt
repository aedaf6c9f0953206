use Rattle.std.proofs.Common.{◌^◌, arith, refl}
use Rattle.std.proofs.lemmas.Option.{slice_get_read}
use Rattle.bit_words.specs.Logic.{extends_trans}
use Rattle.bit_words.proofs.Kept.{owns_read}
use Rattle.bit_words.proofs.Naturals.{nat_more}
use Rattle.bit_words.proofs.Integers.{less_step, nat_taken_below}
use Rattle.bit_words.proofs.order.less_bits.Goals as goal

pub loop-i-preserved : goal.loop-i-preserved
loop-i-preserved g c =
    let reads = g.L.Logic.reads in
    let i = c.loop-i.i in
    let before = c.loop-i.invariant in
    let at = slice_get_read c.args.a.now _ i c.index-a-i.result refl (omega arith) c.index-a-i.is in
    let at_right = slice_get_read c.args.b.now _ i c.index-b-i.result refl (omega arith) c.index-b-i.is in
    let last = c.less_digit.ensures.extends in
    record {
      extends = extends_trans before.extends last;
      owned = c.in_ok-below.ensures.owned;
      value = λ vs.
          let first = reads c.args.g.now vs in
          let x = before.extends.same c.index-a-i.result (owns_read i c.requires.left at) vs in
          let y = before.extends.same c.index-b-i.result (owns_read i c.requires.right at_right) vs in
          let now = rw (x, y) at (c.in_ok-below.ensures.value vs) in
          let left = nat_more first c.args.a.now i c.index-a-i.result at in
          let right = nat_more first c.args.b.now i c.index-b-i.result at_right in
          rw (now, left, right) (less_step (2 ^ i) _ _ (first c.index-a-i.result) (first c.index-b-i.result) (reads c.loop-i.g vs c.loop-i.below) (nat_taken_below first c.args.a.now i (omega arith)) (nat_taken_below first c.args.b.now i (omega arith)) (before.value vs));
    }
