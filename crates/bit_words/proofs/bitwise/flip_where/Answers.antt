use Rattle.std.proofs.Common.{◌∙◌, ap, sym, arith, length, length-append}
use Rattle.bit_words.specs.Bits.{differ}
use Rattle.bit_words.specs.Logic.{extends_trans}
use Rattle.bit_words.proofs.Kept.{owns_push, owns_kept, owns_read, take_read, reads_kept}
use Rattle.bit_words.proofs.Pushes.{push_read, map_more}
use Rattle.bit_words.proofs.bitwise.flip_where.Goals as goal

pub loop-i-preserved : goal.loop-i-preserved
loop-i-preserved g c =
    let reads = g.L.Logic.reads in
    let before = c.loop-i.invariant in
    let step = c.xor.ensures.extends in
    record {
      extends = extends_trans before.extends step;
      owned = owns_push (owns_kept step before.owned) c.in_ok-other.ensures.owned c.in_ok-push.ensures.ok;
      width = ap length c.in_ok-push.ensures.ok ∙ simp (length-append) (omega arith);
      value = λ vs.
          let first = reads c.args.g.now vs in
          let change = differ (first c.args.test) in
          let test = before.extends.same _ c.requires.test vs in
          let digit = before.extends.same _ (owns_read _ c.requires.word c.at-digit.ensures) vs in
          push_read (reads c.loop-i.g vs) (reads c.xor.new.self vs) _ _ _ _ _ (reads_kept step before.owned vs) (before.value vs) (rw (test, digit) at (c.in_ok-other.ensures.value vs)) c.in_ok-push.ensures.ok
          ∙ sym (map_more change first _ _ _ (take_read c.args.a.now c.loop-i.i c.at-digit.result c.at-digit.ensures));
    }

pub xor-requires : goal.xor-requires
xor-requires g c = record { left = c.loop-i.invariant.extends.kept _ c.requires.test; right = c.loop-i.invariant.extends.kept _ (owns_read _ c.requires.word c.at-digit.ensures) }

pub returns-in_err-other-clause-extends : goal.returns-in_err-other-clause-extends
returns-in_err-other-clause-extends g c = extends_trans c.loop-i.invariant.extends c.xor.ensures.extends

pub returns-in_err-push-clause-extends : goal.returns-in_err-push-clause-extends
returns-in_err-push-clause-extends g c = extends_trans c.loop-i.invariant.extends c.xor.ensures.extends

pub returns-clause-extends : goal.returns-clause-extends
returns-clause-extends g c = c.loop-i.invariant.extends

pub returns-clause-made : goal.returns-clause-made
returns-clause-made g c = record {
  owned = c.loop-i.invariant.owned;
  width = omega (arith, c.loop-i.invariant.width);
}
