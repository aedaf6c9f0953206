use Rattle.std.proofs.Common.{◌∙◌, ap, sym, refl, arith, length, length-append}
use Rattle.std.proofs.lemmas.Option.{slice_get_read}
use Rattle.bit_words.specs.Logic.{extends_trans}
use Rattle.bit_words.proofs.Kept.{owns_push, owns_kept, owns_read, take_read, reads_kept}
use Rattle.bit_words.proofs.Pushes.{push_read, choose_more}
use Rattle.bit_words.proofs.bitwise.choose_bits.Goals as goal

pub loop-i-preserved : goal.loop-i-preserved
loop-i-preserved g c =
    let reads = g.L.Logic.reads in
    let before = c.loop-i.invariant in
    let step = c.choose.ensures.extends in
    let at_first = slice_get_read c.args.yes.now _ c.loop-i.i c.index-yes-i.result refl (omega arith) c.index-yes-i.is in
    let at_second = slice_get_read c.args.no.now _ c.loop-i.i c.index-no-i.result refl (omega arith) c.index-no-i.is in
    record {
      extends = extends_trans before.extends step;
      owned = owns_push (owns_kept step before.owned) c.in_ok-digit.ensures.owned c.in_ok-push.ensures.ok;
      width = ap length c.in_ok-push.ensures.ok ∙ simp (length-append) (omega arith);
      value = λ vs.
          let first = reads c.args.g.now vs in
          let test = before.extends.same _ c.requires.test vs in
          let left = before.extends.same _ (owns_read _ c.requires.yes at_first) vs in
          let right = before.extends.same _ (owns_read _ c.requires.no at_second) vs in
          push_read (reads c.loop-i.g vs) (reads c.choose.new.self vs) _ _ _ _ _ (reads_kept step before.owned vs) (before.value vs) (rw (test, left, right) at (c.in_ok-digit.ensures.value vs)) c.in_ok-push.ensures.ok
          ∙ sym (choose_more (first c.args.test) first _ _ _ _ _ _ (take_read c.args.yes.now c.loop-i.i c.index-yes-i.result at_first) (take_read c.args.no.now c.loop-i.i c.index-no-i.result at_second));
    }

pub choose-requires : goal.choose-requires
choose-requires g c =
    let at_first = slice_get_read c.args.yes.now _ c.loop-i.i c.index-yes-i.result refl (omega arith) c.index-yes-i.is in
    let at_second = slice_get_read c.args.no.now _ c.loop-i.i c.index-no-i.result refl (omega arith) c.index-no-i.is in
    record { test = c.loop-i.invariant.extends.kept _ c.requires.test; yes = c.loop-i.invariant.extends.kept _ (owns_read _ c.requires.yes at_first); no = c.loop-i.invariant.extends.kept _ (owns_read _ c.requires.no at_second) }

pub returns-in_err-digit-clause-extends : goal.returns-in_err-digit-clause-extends
returns-in_err-digit-clause-extends g c = extends_trans c.loop-i.invariant.extends c.choose.ensures.extends

pub returns-in_err-push-clause-extends : goal.returns-in_err-push-clause-extends
returns-in_err-push-clause-extends g c = extends_trans c.loop-i.invariant.extends c.choose.ensures.extends

pub returns-clause-extends : goal.returns-clause-extends
returns-clause-extends g c = c.loop-i.invariant.extends

pub returns-clause-made : goal.returns-clause-made
returns-clause-made g c = record {
  owned = c.loop-i.invariant.owned;
  width = omega (arith, c.loop-i.invariant.width);
}
