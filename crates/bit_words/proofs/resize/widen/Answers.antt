use Rattle.std.proofs.Common.{◌∙◌, ◌<◌, ap, sym, arith, length, length-append, map}
use Rattle.std.proofs.lemmas.List.{length-map, map_push}
use Rattle.bit_words.specs.Words.{int_of, is_negative}
use Rattle.bit_words.proofs.Kept.{owns_push}
use Rattle.bit_words.proofs.Signs.{repeat_sign}
use Rattle.bit_words.proofs.resize.widen.Goals as goal

pub loop-preserved : goal.loop-preserved
loop-preserved g c =
    let before = c.loop.invariant in
    record {
      owned = owns_push before.owned c.sign_of-sign.ensures.owned c.in_ok-push.ensures.ok;
      width = ap length c.in_ok-push.ensures.ok ∙ simp (length-append) (omega (arith, before.width));
      value = λ vs.
          let f = g.L.Logic.reads c.args.g.now vs in
          let some : 0 < length (map f c.loop.wide) = simp length-map (omega (arith, before.width, c.requires.some)) in
          let sign = c.sign_of-sign.ensures.value vs ∙ ap is_negative (sym (before.value vs)) in
          ap (λ w. int_of (map f w)) c.in_ok-push.ensures.ok ∙ ap int_of (map_push f c.loop.wide c.sign_of-sign.result)
          ∙ repeat_sign (map f c.loop.wide) (f c.sign_of-sign.result) some sign ∙ before.value vs;
    }
