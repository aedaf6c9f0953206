use Rattle.std.proofs.Common.{◌≡◌, ◌<◌, ◌≤◌, ◌+◌, ◌*◌, ◌^◌, ◌∙◌, ℕ, suc, ap, arith, length, map}
use Rattle.std.proofs.Common.{subst}
use Rattle.std.proofs.lemmas.List.{length_push, take_all}
use Rattle.bit_words.specs.Logic.{extends_refl, extends_trans}
use Rattle.bit_words.specs.Words.{bit_value, nat_of, nat_read}
use Rattle.bit_words.proofs.Kept.{owns_kept, owns_none, owns_push, owns_read, reads_kept}
use Rattle.bit_words.proofs.Naturals.{nat_more, nat_pushed, power_double}
use Rattle.sym_paths.proofs.Kept.{half_step, no_carry}
use Rattle.sym_paths.proofs.printed.one_more.Goals as goal

pub half_add-requires-clause-left : goal.half_add-requires-clause-left
half_add-requires-clause-left g c =
    c.loop-i.invariant.extends.kept _ (owns_read _ c.requires c.at-digit.ensures)

pub half_add-requires-clause-right : goal.half_add-requires-clause-right
half_add-requires-clause-right g c = c.loop-i.invariant.carried

pub loop-i-init : goal.loop-i-init
loop-i-init g c =
    let none = c.new-sum.ensures in
    let carry = c.constant-carry in
    record {
      extends = extends_refl;
      width = ap length none;
      owned = rw none owns_none;
      carried = carry.ensures.owned;
      total = λ vs.
          let rd = g.L.Logic.reads c.args.g.now vs in
          ap (λ w. nat_of (map rd w) + 1 * bit_value (rd carry.result)) none
          ∙ ap (λ b. 0 + 1 * bit_value b) (carry.ensures.value vs);
    }

pub loop-i-preserved : goal.loop-i-preserved
loop-i-preserved g c =
    let reads = g.L.Logic.reads in
    let i = c.loop-i.i in
    let before = c.loop-i.invariant in
    let step = c.half_add.ensures.extends in
    let more = c.in_ok-both.ensures in
    let pushed = c.in_ok-push.ensures.ok in
    let long = ap length pushed ∙ length_push c.loop-i.sum c.in_ok-both.one in
    record {
      extends = extends_trans before.extends step;
      width = omega (arith, long, before.width);
      owned = owns_push (owns_kept step before.owned) more.owned_one pushed;
      carried = more.owned_both;
      total = λ vs.
          let first = reads c.args.g.now vs in
          let x = before.extends.same _ (owns_read _ c.requires c.at-digit.ensures) vs in
          let digit = rw x at (more.one vs) in
          let next = rw x at (more.both vs) in
          let sum = nat_pushed (reads c.loop-i.g vs) (reads c.half_add.new.g vs) c.loop-i.sum
          c.push.new.self c.in_ok-both.one i before.width (reads_kept step before.owned vs)
          pushed in
          let left = nat_more first c.args.number.now i c.at-digit.result c.at-digit.ensures in
          let twice : 2 ^ (i + 1) ≡ 2 ^ i + 2 ^ i =
          ap (λ k. 2 ^ k) (omega arith) ∙ power_double i in
          rw (sum, left, twice, digit, next)
          (half_step (2 ^ i) (first c.at-digit.result) (reads c.loop-i.g vs c.loop-i.carry) _ _
          (before.total vs));
    }

pub returns-clause-made : goal.returns-clause-made
returns-clause-made g c = record {
  owned = c.loop-i.invariant.owned;
  width = omega (arith, c.loop-i.invariant.width);
}

pub returns-clause-value : goal.returns-clause-value
returns-clause-value g c vs less =
    let reads = g.L.Logic.reads in
    let number = c.args.number.now in
    let i = c.loop-i.i in
    let past : length number ≤ i = omega arith in
    let same : length number ≡ i = omega arith in
    let value = nat_read reads c.args.g.now vs number in
    let room : suc value < 2 ^ i = subst (λ (n : ℕ). suc value < 2 ^ n) same less in
    no_carry (2 ^ i) (reads c.loop-i.g vs c.loop-i.carry) _ value
    (c.loop-i.invariant.total vs
    ∙ ap (λ w. nat_of (map (reads c.args.g.now vs) w) + 1) (take_all i number past))
    room
