use Rattle.std.proofs.Common.{◌≡◌, ◌-◌, ◌^◌, List, Bool, true, not, length, arith, ap, length-append}
use Rattle.std.specs.Prelude.{pos, ◌+ℤ◌}
use Rattle.bit_words.specs.Words.{bit_value, int_read, is_within}
use Rattle.bit_words.proofs.Kept.{owns_read, reads_kept, owns_kept, owns_push}
use Rattle.bit_words.proofs.Integers.{int_split, int_pushed, nat_read_below, sum_fits}
use Rattle.bit_words.proofs.sums.signed_sum.Given as given
use Rattle.bit_words.specs.Logic.{extends_trans}
use Rattle.bit_words.proofs.sums.signed_sum.Goals as goal

both : (g : given.Over) (c : goal.In_ok-push g) (vs : List Bool) →
    let z = int_read g.L.Logic.reads c.args.g.now vs c.args.a.now +ℤ int_read g.L.Logic.reads c.args.g.now vs c.args.b.now +ℤ pos (bit_value (g.L.Logic.reads c.args.g.now vs c.args.carry)) in
    (g.L.Logic.reads c.top_digit.new.g vs c.in_ok-digit.over ≡ not (is_within (2 ^ (length c.args.a.now - 1)) z))
    × (is_within (2 ^ (length c.args.a.now - 1)) z ≡ true → int_read g.L.Logic.reads c.top_digit.new.g vs c.push.new.self ≡ z)
both g c vs =
    let reads = g.L.Logic.reads in
    let first = reads c.args.g.now vs in
    let low = c.in_ok-sum.ensures in
    let top = c.len-top.result - 1 in
    let size : length c.args.a.now - 1 ≡ top = omega arith in
    let x = c.carry_sum.ensures.extends.same _ (owns_read _ c.requires.left c.at-first.ensures) vs in
    let y = c.carry_sum.ensures.extends.same _ (owns_read _ c.requires.right c.at-second.ensures) vs in
    let over = rw (x, y) at (c.in_ok-digit.ensures.over vs) in
    let digit = rw (x, y) at (c.in_ok-digit.ensures.digit vs) in
    let left = int_split first c.args.a.now top c.at-first.result c.at-first.ensures (omega arith) in
    let right = int_split first c.args.b.now top c.at-second.result c.at-second.ensures (omega arith) in
    let kept = reads_kept c.top_digit.ensures.extends low.owned vs in
    let sum = int_pushed (reads c.carry_sum.new.g vs) (reads c.top_digit.new.g vs) c.in_ok-sum.sum c.push.new.self c.in_ok-digit.digit top low.width kept c.in_ok-push.ensures.ok in
    let fit = sum_fits (2 ^ top) (first c.at-first.result) (first c.at-second.result) (reads c.carry_sum.new.g vs c.in_ok-sum.into_top) (first c.args.carry) _ _ _ _ _ _
    (nat_read_below (reads c.carry_sum.new.g vs) c.in_ok-sum.sum top low.width) (low.total vs) left right (rw digit at sum) in
    rw (size, over) fit

pub returns-clause-over : goal.returns-clause-over
returns-clause-over g c vs = (both g c vs).0

pub returns-clause-value : goal.returns-clause-value
returns-clause-value g c vs = (both g c vs).1

pub returns-in_err-sum-clause-extends : goal.returns-in_err-sum-clause-extends
returns-in_err-sum-clause-extends g c = c.carry_sum.ensures.extends

pub top_digit-requires : goal.top_digit-requires
top_digit-requires g c = record { left = c.carry_sum.ensures.extends.kept _ (owns_read _ c.requires.left c.at-first.ensures); right = c.carry_sum.ensures.extends.kept _ (owns_read _ c.requires.right c.at-second.ensures); carry = c.in_ok-sum.ensures.owned_carry }

pub returns-in_err-digit-clause-extends : goal.returns-in_err-digit-clause-extends
returns-in_err-digit-clause-extends g c = extends_trans c.carry_sum.ensures.extends c.top_digit.ensures.extends

pub returns-in_err-push-clause-extends : goal.returns-in_err-push-clause-extends
returns-in_err-push-clause-extends g c = extends_trans c.carry_sum.ensures.extends c.top_digit.ensures.extends

pub returns-clause-extends : goal.returns-clause-extends
returns-clause-extends g c = extends_trans c.carry_sum.ensures.extends c.top_digit.ensures.extends

pub returns-clause-made : goal.returns-clause-made
returns-clause-made g c = record {
  owned = owns_push (owns_kept c.top_digit.ensures.extends c.in_ok-sum.ensures.owned) c.in_ok-digit.ensures.owned c.in_ok-push.ensures.ok;
  owned_over = c.in_ok-digit.ensures.owned_over;
  width = omega (arith, simp length-append at (ap length c.in_ok-push.ensures.ok), c.in_ok-sum.ensures.width);
}
