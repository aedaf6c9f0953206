use Rattle.std.proofs.Common.{◌∙◌, ◌+◌, ◌*◌, ◌^◌, ◌<◌, ap, arith, refl, not, eqb, sym}
use Rattle.std.specs.Prelude.{◌%◌}
use Rattle.std.proofs.lemmas.Option.{slice_get_read}
use Rattle.bit_words.specs.Logic.{extends_trans}
use Rattle.bit_words.specs.Words.{bit_value}
use Rattle.bit_words.proofs.Constants.{digit_step, past_apart}
use Rattle.bit_words.proofs.Kept.{owns_read}
use Rattle.bit_words.proofs.Naturals.{nat_more}
use Rattle.bit_words.proofs.Integers.{same_step, nat_taken_below, nat_read_below}
use Rattle.sym_nodes.proofs.choices.is_place.Goals as goal

pub loop-i-preserved : goal.loop-i-preserved
loop-i-preserved g c =
    let reads = g.L.Logic.reads in
    let i = c.loop-i.i in
    let before = c.loop-i.invariant in
    let at = slice_get_read c.args.bits.now _ i c.index-bits-i.result refl (omega arith) c.index-bits-i.is in
    let one = c.xor.ensures.extends in
    let two = c.and.ensures.extends in
    let last = extends_trans one two in
    record {
      extends = extends_trans before.extends last;
      owned = c.in_ok-alike.ensures.owned;
      value =
          let low = before.value.0 in
          let next = digit_step i low c.loop-i.rest c.args.place before.value.1 before.value.2 in (
            low + 2 ^ i * bit_value (eqb (c.loop-i.rest % 2) 1),
            next.0,
            next.1,
            λ vs.
                let first = reads c.args.g.now vs in
                let x = before.extends.same c.index-bits-i.result (owns_read i c.requires at) vs in
                let y = c.constant-right.ensures.value vs in
                let alike = one.same c.loop-i.alike before.owned vs in
                let other = rw (x, y) at (c.in_ok-other.ensures.value vs) in
                let same = c.not-same.ensures.value vs ∙ ap not other in
                let now = rw (alike, same) at (c.in_ok-alike.ensures.value vs) in
                let left = nat_more first c.args.bits.now i c.index-bits-i.result at in
                rw (now, left) (same_step (2 ^ i) _ _ (first c.index-bits-i.result) (eqb (c.loop-i.rest % 2) 1) (reads c.loop-i.g vs c.loop-i.alike) (nat_taken_below first c.args.bits.now i (omega arith)) before.value.1 (before.value.3 vs)),
          );
    }

pub returns-then-rest-ne0-clause-value : goal.returns-then-rest-ne0-clause-value
returns-then-rest-ne0-clause-value g c vs =
    let first = g.L.Logic.reads c.args.g.now vs in
    let i = c.loop-i.i in
    let some : 0 < c.loop-i.rest = omega arith in
    let before = c.loop-i.invariant.value in
    c.constant.ensures.value vs ∙ sym (past_apart (2 ^ i) _ before.0 c.loop-i.rest c.args.place (nat_read_below first c.args.bits.now i (omega arith)) some before.2)
