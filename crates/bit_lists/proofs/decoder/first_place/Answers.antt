use Rattle.std.proofs.Common.{◌∙◌, ap, refl, arith, length, length-append, eqb, ℕ, false}
use Rattle.bit_words.proofs.Kept.{owns_push}
use Rattle.bit_lists.proofs.Reading.{push_read}
use Rattle.bit_lists.proofs.decoder.first_place.Goals as goal

pub loop-j-preserved : goal.loop-j-preserved
loop-j-preserved g c =
    let before = c.loop-j.invariant in
    record {
      owned = owns_push before.owned c.constant-bit.ensures.owned c.in_ok-push.ensures.ok;
      many = ap length c.in_ok-push.ensures.ok ∙ simp (length-append) (omega (arith, before.many));
      value = λ vs.
          let f = g.L.Logic.reads c.args.g.now vs in
          push_read f f false _ _ _ c.loop-j.j (λ (k : ℕ). eqb k 0) before.many refl (before.value vs) (c.constant-bit.ensures.value vs) c.in_ok-push.ensures.ok;
    }

pub returns-clause-value : goal.returns-clause-value
returns-clause-value g c vs some k h = c.loop-j.invariant.value vs k (omega arith)
