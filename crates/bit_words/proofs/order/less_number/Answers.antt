use Rattle.std.proofs.Common.{◌∙◌, ◌+◌, ◌*◌, ◌^◌, ◌<◌, arith, refl, eqb, sym}
use Rattle.std.specs.Prelude.{◌%◌}
use Rattle.std.proofs.lemmas.Option.{slice_get_read}
use Rattle.bit_words.specs.Logic.{extends_trans}
use Rattle.bit_words.specs.Words.{bit_value}
use Rattle.bit_words.proofs.Constants.{digit_step, past_below}
use Rattle.bit_words.proofs.Kept.{owns_read}
use Rattle.bit_words.proofs.Naturals.{nat_more}
use Rattle.bit_words.proofs.Integers.{less_step, nat_taken_below, nat_read_below}
use Rattle.bit_words.proofs.order.less_number.Goals as goal

pub loop-i-preserved : goal.loop-i-preserved
loop-i-preserved g c =
    let reads = g.L.Logic.reads in
    let i = c.loop-i.i in
    let before = c.loop-i.invariant in
    let at = slice_get_read c.args.a.now _ i c.index-a-i.result refl (omega arith) c.index-a-i.is in
    let last = c.less_digit.ensures.extends in
    record {
      extends = extends_trans before.extends last;
      owned = c.in_ok-below.ensures.owned;
      value =
          let low = before.value.0 in
          let next = digit_step i low c.loop-i.rest c.args.number before.value.1 before.value.2 in (
            low + 2 ^ i * bit_value (eqb (c.loop-i.rest % 2) 1),
            next.0,
            next.1,
            λ vs.
                let first = reads c.args.g.now vs in
                let x = before.extends.same c.index-a-i.result (owns_read i c.requires at) vs in
                let y = c.constant-right.ensures.value vs in
                let now = rw (x, y) at (c.in_ok-below.ensures.value vs) in
                let left = nat_more first c.args.a.now i c.index-a-i.result at in
                rw (now, left) (less_step (2 ^ i) _ _ (first c.index-a-i.result) (eqb (c.loop-i.rest % 2) 1) (reads c.loop-i.g vs c.loop-i.below) (nat_taken_below first c.args.a.now i (omega arith)) before.value.1 (before.value.3 vs)),
          );
    }

pub returns-then-rest-ne0-clause-value : goal.returns-then-rest-ne0-clause-value
returns-then-rest-ne0-clause-value g c vs =
    let first = g.L.Logic.reads c.args.g.now vs in
    let i = c.loop-i.i in
    let some : 0 < c.loop-i.rest = omega arith in
    let before = c.loop-i.invariant.value in
    c.constant.ensures.value vs ∙ sym (past_below (2 ^ i) _ before.0 c.loop-i.rest c.args.number (nat_read_below first c.args.a.now i (omega arith)) some before.2)
