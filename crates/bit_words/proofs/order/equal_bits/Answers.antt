use Rattle.std.proofs.Common.{◌∙◌, ◌^◌, ap, arith, refl, not}
use Rattle.std.proofs.lemmas.Option.{slice_get_read}
use Rattle.bit_words.specs.Logic.{extends_trans}
use Rattle.bit_words.proofs.Kept.{owns_read}
use Rattle.bit_words.proofs.Naturals.{nat_more}
use Rattle.bit_words.proofs.Integers.{same_step, nat_taken_below}
use Rattle.bit_words.proofs.order.equal_bits.Goals as goal

pub loop-i-preserved : goal.loop-i-preserved
loop-i-preserved g c =
    let reads = g.L.Logic.reads in
    let i = c.loop-i.i in
    let before = c.loop-i.invariant in
    let at = slice_get_read c.args.a.now _ i c.index-a-i.result refl (omega arith) c.index-a-i.is in
    let at_right = slice_get_read c.args.b.now _ i c.index-b-i.result refl (omega arith) c.index-b-i.is in
    let one = c.xor.ensures.extends in
    let two = c.and.ensures.extends in
    let last = extends_trans one two in
    record {
      extends = extends_trans before.extends last;
      owned = c.in_ok-alike.ensures.owned;
      value = λ vs.
          let first = reads c.args.g.now vs in
          let x = before.extends.same c.index-a-i.result (owns_read i c.requires.left at) vs in
          let y = before.extends.same c.index-b-i.result (owns_read i c.requires.right at_right) vs in
          let alike = one.same c.loop-i.alike before.owned vs in
          let other = rw (x, y) at (c.in_ok-other.ensures.value vs) in
          let same = c.not-same.ensures.value vs ∙ ap not other in
          let now = rw (alike, same) at (c.in_ok-alike.ensures.value vs) in
          let left = nat_more first c.args.a.now i c.index-a-i.result at in
          let right = nat_more first c.args.b.now i c.index-b-i.result at_right in
          rw (now, left, right) (same_step (2 ^ i) _ _ (first c.index-a-i.result) (first c.index-b-i.result) (reads c.loop-i.g vs c.loop-i.alike) (nat_taken_below first c.args.a.now i (omega arith)) (nat_taken_below first c.args.b.now i (omega arith)) (before.value vs));
    }
