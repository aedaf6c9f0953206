use Rattle.std.proofs.Common.{◌≡◌, ◌∙◌, ◌+◌, ◌^◌, ap, length, arith, length-append}
use Rattle.bit_words.specs.Logic.{extends_trans}
use Rattle.bit_words.proofs.Kept.{owns_push, owns_kept, owns_read, reads_kept}
use Rattle.bit_words.proofs.Naturals.{power_double, nat_more, nat_pushed, carry_step}
use Rattle.bit_words.proofs.sums.carry_sum.Goals as goal

pub loop-i-preserved : goal.loop-i-preserved
loop-i-preserved g c =
    let reads = g.L.Logic.reads in
    let i = c.loop-i.i in
    let before = c.loop-i.invariant in
    let step = c.full_add.ensures.extends in
    let more = c.in_ok-digit.ensures in
    record {
      extends = extends_trans before.extends step;
      width = ap length c.in_ok-push.ensures.ok ∙ simp (length-append) (omega arith);
      owned = owns_push (owns_kept step before.owned) more.owned_sum c.in_ok-push.ensures.ok;
      carried = more.owned_carry;
      total = λ vs.
          let first = reads c.args.g.now vs in
          let x = before.extends.same _ (owns_read _ c.requires.left c.at-left.ensures) vs in
          let y = before.extends.same _ (owns_read _ c.requires.right c.at-right.ensures) vs in
          let digit = rw (x, y) at (more.sum vs) in
          let next = rw (x, y) at (more.carried vs) in
          let sum = nat_pushed (reads c.loop-i.g vs) (reads c.full_add.new.g vs) c.loop-i.sum c.push.new.self c.in_ok-digit.digit i before.width (reads_kept step before.owned vs) c.in_ok-push.ensures.ok in
          let left = nat_more first c.args.a.now i c.at-left.result c.at-left.ensures in
          let right = nat_more first c.args.b.now i c.at-right.result c.at-right.ensures in
          let twice : 2 ^ (i + 1) ≡ 2 ^ i + 2 ^ i = ap (λ k. 2 ^ k) (omega arith) ∙ power_double i in
          rw (sum, left, right, twice, digit, next) (carry_step (2 ^ i) (first c.at-left.result) (first c.at-right.result) (reads c.loop-i.g vs c.loop-i.carried) _ _ _ _ (before.total vs));
    }

pub full_add-requires : goal.full_add-requires
full_add-requires g c = record { left = c.loop-i.invariant.extends.kept _ (owns_read _ c.requires.left c.at-left.ensures); right = c.loop-i.invariant.extends.kept _ (owns_read _ c.requires.right c.at-right.ensures); carry = c.loop-i.invariant.carried }

pub returns-in_err-digit-clause-extends : goal.returns-in_err-digit-clause-extends
returns-in_err-digit-clause-extends g c = extends_trans c.loop-i.invariant.extends c.full_add.ensures.extends

pub returns-in_err-push-clause-extends : goal.returns-in_err-push-clause-extends
returns-in_err-push-clause-extends g c = extends_trans c.loop-i.invariant.extends c.full_add.ensures.extends

pub returns-clause-extends : goal.returns-clause-extends
returns-clause-extends g c = c.loop-i.invariant.extends

pub returns-clause-owned : goal.returns-clause-owned
returns-clause-owned g c = c.loop-i.invariant.owned

pub returns-clause-owned_carry : goal.returns-clause-owned_carry
returns-clause-owned_carry g c = c.loop-i.invariant.carried
