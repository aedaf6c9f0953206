use Rattle.std.proofs.Common.{◌≡◌, ◌∙◌, ◌+◌, ◌-◌, ap, map, take, arith}
use Rattle.bit_words.specs.Logic.{extends_trans}
use Rattle.bit_words.specs.Words.{nat_of}
use Rattle.bit_words.proofs.Kept.{owns_read, reads_kept, owns_kept}
use Rattle.bit_words.proofs.Naturals.{nat_more}
use Rattle.bit_words.proofs.Integers.{nat_read_below}
use Rattle.bit_words.proofs.Products.{row_more}
use Rattle.bit_words.proofs.product.add_row.Goals as goal

pub returns-clause-value : goal.returns-clause-value
returns-clause-value g c vs digits some higher =
    let reads = g.L.Logic.reads in
    let first = reads c.args.g.now vs in
    let summed = reads c.row_sum.new.g vs in
    let w = c.args.width - 1 in
    let width : c.args.width ≡ w + 1 = omega arith in
    let one = c.row_sum.ensures.extends in
    let two = c.and.ensures.extends in
    let three = c.or.ensures.extends in
    let four = c.or-2.ensures.extends in
    let top_owned = owns_read _ c.requires.factor c.at-top.ensures in
    let top = one.same _ top_owned vs in
    let some_kept = one.same _ c.requires.some vs in
    let over_kept = two.same _ (one.kept _ c.requires.over) vs ∙ one.same _ c.requires.over vs in
    let carry_kept = two.same _ c.in_ok-sum.ensures.owned_carry vs in
    let lost_kept = three.same _ c.in_ok-lost.ensures.owned vs in
    let lost = lost_kept ∙ rw (some_kept, top) at (c.in_ok-lost.ensures.value vs) in
    let carried = rw (over_kept, carry_kept) at (c.in_ok-carried.ensures.value vs) in
    let spilled = rw (carried, lost) at (c.in_ok-spilled.ensures.value vs) in
    let sum_kept = ap nat_of (reads_kept (extends_trans two (extends_trans three four)) c.in_ok-sum.ensures.owned vs) in
    let split = ap (λ k. nat_of (map first (take k c.args.a.now))) width ∙ nat_more first c.args.a.now w c.at-top.result c.at-top.ensures in
    let more = row_more c.args.width w (nat_of (map first (take c.args.width c.args.a.now))) (nat_of (map first (take w c.args.a.now))) (nat_of (map first c.args.higher.now.number)) (nat_of (map summed c.in_ok-sum.sum)) digits
    (first c.at-top.result) (first c.args.digit) (first c.args.higher.now.over) (summed c.in_ok-sum.carry) (first c.args.higher.now.some)
    width split (nat_read_below summed c.in_ok-sum.sum c.args.width c.in_ok-sum.ensures.width) some higher (c.in_ok-sum.ensures.total vs) in
    rw (sum_kept, spilled) more

pub returns-in_err-sum-clause-extends : goal.returns-in_err-sum-clause-extends
returns-in_err-sum-clause-extends g c = c.row_sum.ensures.extends

pub and-requires : goal.and-requires
and-requires g c = record { left = c.row_sum.ensures.extends.kept _ c.requires.some; right = c.row_sum.ensures.extends.kept _ (owns_read _ c.requires.factor c.at-top.ensures) }

pub returns-in_err-lost-clause-extends : goal.returns-in_err-lost-clause-extends
returns-in_err-lost-clause-extends g c = extends_trans c.row_sum.ensures.extends c.and.ensures.extends

pub or-requires : goal.or-requires
or-requires g c = record { left = (extends_trans c.row_sum.ensures.extends c.and.ensures.extends).kept _ c.requires.over; right = c.and.ensures.extends.kept _ c.in_ok-sum.ensures.owned_carry }

pub returns-in_err-carried-clause-extends : goal.returns-in_err-carried-clause-extends
returns-in_err-carried-clause-extends g c = extends_trans c.row_sum.ensures.extends (extends_trans c.and.ensures.extends c.or.ensures.extends)

pub or-requires-2 : goal.or-requires-2
or-requires-2 g c = record { left = c.in_ok-carried.ensures.owned; right = c.or.ensures.extends.kept _ c.in_ok-lost.ensures.owned }

pub returns-in_err-spilled-clause-extends : goal.returns-in_err-spilled-clause-extends
returns-in_err-spilled-clause-extends g c = extends_trans c.row_sum.ensures.extends (extends_trans c.and.ensures.extends (extends_trans c.or.ensures.extends c.or-2.ensures.extends))

pub returns-clause-extends : goal.returns-clause-extends
returns-clause-extends g c = extends_trans c.row_sum.ensures.extends (extends_trans c.and.ensures.extends (extends_trans c.or.ensures.extends c.or-2.ensures.extends))

pub returns-clause-made : goal.returns-clause-made
returns-clause-made g c = record {
  owned = owns_kept (extends_trans c.and.ensures.extends (extends_trans c.or.ensures.extends c.or-2.ensures.extends)) c.in_ok-sum.ensures.owned;
  owned_over = c.in_ok-spilled.ensures.owned;
  width = c.in_ok-sum.ensures.width;
}
