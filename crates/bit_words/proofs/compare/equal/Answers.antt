use Rattle.std.proofs.Common.{◌∙◌, ◌^◌, ap, map, arith, not}
use Rattle.std.proofs.lemmas.List.{length-map, take_all}
use Rattle.bit_words.specs.Logic.{extends_trans}
use Rattle.bit_words.proofs.Kept.{owns_read}
use Rattle.bit_words.proofs.Naturals.{nat_more}
use Rattle.bit_words.proofs.Integers.{same_step, same_numbers, nat_taken_below}
use Rattle.bit_words.proofs.compare.equal.Goals as goal

pub loop-i-preserved : goal.loop-i-preserved
loop-i-preserved g c =
    let reads = g.L.Logic.reads in
    let i = c.loop-i.i in
    let before = c.loop-i.invariant in
    let one = c.xor.ensures.extends in
    let two = c.and.ensures.extends in
    record {
      extends = extends_trans before.extends (extends_trans one two);
      owned = c.in_ok-alike.ensures.owned;
      value = λ vs.
          let first = reads c.args.g.now vs in
          let x = before.extends.same _ (owns_read _ c.requires.left c.at-left.ensures) vs in
          let y = before.extends.same _ (owns_read _ c.requires.right c.at-right.ensures) vs in
          let alike = one.same _ before.owned vs in
          let other = rw (x, y) at (c.in_ok-other.ensures.value vs) in
          let same = c.not-same.ensures.value vs ∙ ap not other in
          let now = rw (alike, same) at (c.in_ok-alike.ensures.value vs) in
          let left = nat_more first c.args.a.now i c.at-left.result c.at-left.ensures in
          let right = nat_more first c.args.b.now i c.at-right.result c.at-right.ensures in
          rw (now, left, right) (same_step (2 ^ i) _ _ (first c.at-left.result) (first c.at-right.result) (reads c.loop-i.g vs c.loop-i.alike) (nat_taken_below first c.args.a.now i (omega arith)) (nat_taken_below first c.args.b.now i (omega arith)) (before.value vs));
    }

pub returns-clause-value : goal.returns-clause-value
returns-clause-value g c vs =
    let first = g.L.Logic.reads c.args.g.now vs in
    let left = take_all c.loop-i.i c.args.a.now (omega arith) in
    let right = take_all c.loop-i.i c.args.b.now (omega arith) in
    rw (left, right) at (c.loop-i.invariant.value vs) ∙ same_numbers (map first c.args.a.now) (map first c.args.b.now) (simp length-map (omega arith)) (simp length-map (omega arith))

pub xor-requires : goal.xor-requires
xor-requires g c = record { left = c.loop-i.invariant.extends.kept _ (owns_read _ c.requires.left c.at-left.ensures); right = c.loop-i.invariant.extends.kept _ (owns_read _ c.requires.right c.at-right.ensures) }

pub returns-in_err-other-clause-extends : goal.returns-in_err-other-clause-extends
returns-in_err-other-clause-extends g c = extends_trans c.loop-i.invariant.extends c.xor.ensures.extends

pub not-same-requires : goal.not-same-requires
not-same-requires g c = c.in_ok-other.ensures.owned

pub and-requires : goal.and-requires
and-requires g c = record { left = c.xor.ensures.extends.kept _ c.loop-i.invariant.owned; right = c.not-same.ensures.owned }

pub returns-in_err-alike-clause-extends : goal.returns-in_err-alike-clause-extends
returns-in_err-alike-clause-extends g c = extends_trans c.loop-i.invariant.extends (extends_trans c.xor.ensures.extends c.and.ensures.extends)

pub returns-clause-extends : goal.returns-clause-extends
returns-clause-extends g c = c.loop-i.invariant.extends

pub returns-clause-owned : goal.returns-clause-owned
returns-clause-owned g c = c.loop-i.invariant.owned
