use Rattle.std.proofs.Common.{◌∙◌, ◌≡◌, ◌+◌, ◌*◌, ◌^◌, ◌<◌, ℕ, zero, suc, ap, refl, arith, length}
use Rattle.std.proofs.Common.{length-append, map}
use Rattle.bit_words.specs.Words.{nat_of}
use Rattle.bit_words.proofs.Constants.{digit_step}
use Rattle.bit_words.proofs.Integers.{nat_read_below}
use Rattle.bit_words.proofs.Naturals.{nat_pushed}
use Rattle.sym_values.proofs.Held.{owns_push}
use Rattle.task_bits.proofs.constants.member_bits.Goals as goal

pub loop-preserved : goal.loop-preserved
loop-preserved g c =
    let before = c.loop.invariant in
    record {
      owned = owns_push before.owned c.constant-digit.ensures.owned c.in_ok-push.ensures.ok;
      width = ap length c.in_ok-push.ensures.ok
          ∙ simp (length-append) (omega (arith, before.width));
      value = λ vs.
          let f = g.L.Logic.reads c.args.g.now vs in
          let below = nat_read_below f c.loop.bits c.loop.counter before.width in
          let step = digit_step c.loop.counter (nat_of (map f c.loop.bits)) c.loop.rest
          c.args.member below (before.value vs) in
          let pushed = nat_pushed f f c.loop.bits c.push.new.self c.constant-digit.result
          c.loop.counter before.width refl c.in_ok-push.ensures.ok in
          let digit = c.constant-digit.ensures.value vs in rw (pushed, digit) step.1;
    }

nothing_left : (p low rest number : ℕ) → number < p → low + p * rest ≡ number → low ≡ number
nothing_left p low zero number h e = omega arith
nothing_left p low (suc n) number h e = absurd (omega arith)

pub returns-clause-made : goal.returns-clause-made
returns-clause-made g c = c.loop.invariant.owned

pub returns-clause-value : goal.returns-clause-value
returns-clause-value g c vs =
    let past = c.loop-test.false in
    let most = c.loop.auto.counter-end in
    let fits = c.width_of-end.ensures in
    let end : c.loop.counter ≡ c.width_of-end.result = omega arith in
    nothing_left (2 ^ c.width_of-end.result) _ c.loop.rest c.args.member fits
    (rw end at (c.loop.invariant.value vs))
