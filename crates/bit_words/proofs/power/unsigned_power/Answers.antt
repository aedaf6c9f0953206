use Rattle.std.proofs.Common.{◌≡◌, ◌∙◌, ◌+◌, ◌-◌, [], ap, length, map, drop, arith}
use Rattle.std.proofs.lemmas.List.{length-map, drop_all}
use Rattle.bit_words.specs.Logic.{extends_trans, extends_refl}
use Rattle.bit_words.specs.Words.{nat_of}
use Rattle.bit_words.proofs.Kept.{owns_read, reads_kept, drop_read, owns_kept}
use Rattle.bit_words.proofs.Powers.{no_exponent}
use Rattle.bit_words.proofs.power.unsigned_power.Goals as goal

pub loop-k-init : goal.loop-k-init
loop-k-init g c =
    let first = g.L.Logic.reads c.args.g.now in
    let digits = c.len-digits.result in
    record {
      extends = extends_refl;
      width = c.in_ok-power.ensures.made.width ∙ c.len.ensures;
      owned = c.in_ok-power.ensures.made.owned;
      owned_over = c.constant-over.ensures.owned;
      value = λ vs.
          let none : drop (digits - 0) (map (first vs) c.args.b.now) ≡ [] = drop_all (digits - 0) (map (first vs) c.args.b.now) (simp length-map (omega arith)) in
          no_exponent (length c.args.a.now) _ _ _ _ c.requires.long (ap nat_of none) (c.in_ok-power.ensures.value vs) (c.constant-over.ensures.value vs);
    }

pub loop-k-preserved : goal.loop-k-preserved
loop-k-preserved g c =
    let reads = g.L.Logic.reads in
    let k = c.loop-k.k in
    let digits = c.len-digits.result in
    let before = c.loop-k.invariant in
    let step = c.power_digit.ensures.extends in
    let more = c.in_ok-next.ensures in
    record {
      extends = extends_trans before.extends step;
      width = more.made.width;
      owned = more.made.owned;
      owned_over = more.made.owned_over;
      value = λ vs.
          let first = reads c.args.g.now vs in
          let base = ap nat_of (reads_kept before.extends c.requires.base vs) in
          let digit = before.extends.same _ (owns_read _ c.requires.exponent c.at-digit.ensures) vs in
          let from = drop_read first c.args.b.now (digits - 1 - k) c.at-digit.result c.at-digit.ensures in
          let here : digits - (k + 1) ≡ digits - 1 - k = omega arith in
          let next : digits - 1 - k + 1 ≡ digits - k = omega arith in
          let now = more.value vs (nat_of (drop (digits - k) (map first c.args.b.now))) (rw base (before.value vs)) in
          rw (here, from, next) (rw (base, digit) at now);
    }

pub returns-clause-value : goal.returns-clause-value
returns-clause-value g c vs =
    let last : c.loop-k.k ≡ c.len-digits.result = omega arith in
    let none : c.len-digits.result - c.len-digits.result ≡ 0 = omega arith in
    rw (last, none) at (c.loop-k.invariant.value vs)

pub power_digit-requires : goal.power_digit-requires
power_digit-requires g c = record { long = c.requires.long; alike = c.loop-k.invariant.width; base = owns_kept c.loop-k.invariant.extends c.requires.base; digit = c.loop-k.invariant.extends.kept _ (owns_read _ c.requires.exponent c.at-digit.ensures); power = c.loop-k.invariant.owned; over = c.loop-k.invariant.owned_over }

pub returns-in_err-next-clause-extends : goal.returns-in_err-next-clause-extends
returns-in_err-next-clause-extends g c = extends_trans c.loop-k.invariant.extends c.power_digit.ensures.extends

pub returns-clause-extends : goal.returns-clause-extends
returns-clause-extends g c = c.loop-k.invariant.extends

pub returns-clause-made : goal.returns-clause-made
returns-clause-made g c = record {
  owned = c.loop-k.invariant.owned;
  owned_over = c.loop-k.invariant.owned_over;
  width = c.loop-k.invariant.width;
}
