use Rattle.std.proofs.Common.{◌∙◌, ap, refl, arith, length, length-append, map}
use Rattle.bit_words.specs.Words.{nat_of}
use Rattle.bit_words.proofs.Constants.{digit_step}
use Rattle.bit_words.proofs.Kept.{owns_push}
use Rattle.bit_words.proofs.Integers.{nat_read_below}
use Rattle.bit_words.proofs.Naturals.{nat_pushed}
use Rattle.input_ranges.proofs.length_ranges.low_digits.Goals as goal

pub loop-preserved : goal.loop-preserved
loop-preserved g c =
    let before = c.loop.invariant in
    record {
      owned = owns_push before.owned c.constant-digit.ensures.owned c.in_ok-push.ensures.ok;
      width = ap length c.in_ok-push.ensures.ok ∙ simp (length-append) (omega (arith, before.width));
      value = λ vs.
          let f = g.L.Logic.reads c.args.g.now vs in
          let step = digit_step c.loop.counter (nat_of (map f c.loop.bits)) c.loop.rest c.args.number (nat_read_below f c.loop.bits c.loop.counter before.width) (before.value vs) in
          let pushed = nat_pushed f f c.loop.bits c.push.new.self c.constant-digit.result c.loop.counter before.width refl c.in_ok-push.ensures.ok in
          let digit = c.constant-digit.ensures.value vs in
          rw (pushed, digit) step.1;
    }
