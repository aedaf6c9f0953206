use Rattle.std.proofs.Common.{◌≡◌, ◌∙◌, ◌+◌, ap, sym, arith, length, length-append}
use Rattle.bit_words.specs.Logic.{keeps_trans}
use Rattle.bit_words.specs.Later.{adds_keeps, adds_trans, owned_later, read_later, values_from_more}
use Rattle.bit_words.proofs.Kept.{owns_push}
use Rattle.bit_words.proofs.Pushes.{push_read}
use Rattle.bit_words.proofs.inputs.fresh_bits.Goals as goal

pub loop-preserved : goal.loop-preserved
loop-preserved g c =
    let v = g.V.Logic in
    let before = c.loop.invariant in
    let keeps = c.variable.ensures.keeps in
    let place : v.count c.loop.g ≡ v.count c.args.g.now + c.loop.counter = before.adds.variables in
    record {
      adds = adds_trans {n = 1} before.adds (record { kept = keeps.kept; same = keeps.same; variables = c.in_ok-bit.ensures.added });
      owned = owns_push (owned_later keeps before.owned) c.in_ok-bit.ensures.owned c.in_ok-push.ensures.ok;
      many = ap length c.in_ok-push.ensures.ok ∙ simp (length-append) (omega (arith, before.many));
      value = λ vs.
          push_read (v.reads c.loop.g vs) (v.reads c.variable.new.self vs) _ _ _ _ _ (read_later keeps before.owned vs) (before.value vs) (rw place at (c.in_ok-bit.ensures.value vs)) c.in_ok-push.ensures.ok
          ∙ sym (values_from_more vs (v.count c.args.g.now) c.loop.counter);
    }

pub returns-in_err-bit-clause-keeps : goal.returns-in_err-bit-clause-keeps
returns-in_err-bit-clause-keeps g c = keeps_trans (adds_keeps c.loop.invariant.adds) c.variable.ensures.keeps
