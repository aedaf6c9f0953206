use Rattle.std.proofs.Common.{◌∙◌, ap, sym, arith, length, not, length-append}
use Rattle.bit_words.proofs.Kept.{owns_push, take_read, owns_read}
use Rattle.bit_words.proofs.Pushes.{push_read, map_more}
use Rattle.std.proofs.Common.{refl}
use Rattle.bit_words.proofs.bitwise.flip.Goals as goal

pub loop-i-preserved : goal.loop-i-preserved
loop-i-preserved g c = record {
  owned = owns_push c.loop-i.invariant.owned c.not.ensures.owned c.in_ok-push.ensures.ok;
  width = ap length c.in_ok-push.ensures.ok ∙ simp (length-append) (omega arith);
  value = λ vs.
      let f = g.L.Logic.reads c.args.g.now vs in
      push_read f f _ _ _ _ _ refl (c.loop-i.invariant.value vs) (c.not.ensures.value vs) c.in_ok-push.ensures.ok
      ∙ sym (map_more not f _ _ _ (take_read c.args.a.now c.loop-i.i c.at-bit.result c.at-bit.ensures));
}

pub not-requires : goal.not-requires
not-requires g c = owns_read _ c.requires c.at-bit.ensures

pub returns-clause-made : goal.returns-clause-made
returns-clause-made g c = record {
  owned = c.loop-i.invariant.owned;
  width = omega (arith, c.loop-i.invariant.width);
}
