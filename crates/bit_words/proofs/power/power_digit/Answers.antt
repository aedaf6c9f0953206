use Rattle.std.proofs.Common.{◌∙◌, ap, length, map, arith, sym}
use Rattle.bit_words.specs.Logic.{extends_trans}
use Rattle.bit_words.specs.Words.{nat_of}
use Rattle.bit_words.proofs.Kept.{reads_kept, owns_kept}
use Rattle.bit_words.proofs.Quotients.{cond_nat}
use Rattle.bit_words.proofs.Powers.{power_more}
use Rattle.bit_words.proofs.power.power_digit.Goals as goal

pub returns-clause-value : goal.returns-clause-value
returns-clause-value g c vs e u =
    let reads = g.L.Logic.reads in
    let first = reads c.args.g.now vs in
    let one = c.product.ensures.extends in
    let two = c.product-2.ensures.extends in
    let three = c.and.ensures.extends in
    let four = c.or.ensures.extends in
    let five = c.or-2.ensures.extends in
    let six = c.choose_word.ensures.extends in
    let digit_two = two.same _ (one.kept _ c.requires.digit) vs ∙ one.same _ c.requires.digit vs in
    let lost = rw digit_two at (c.in_ok-lost.ensures.value vs) in
    let left = three.same _ (two.kept _ c.in_ok-square.ensures.made.owned_over) vs ∙ two.same _ c.in_ok-square.ensures.made.owned_over vs in
    let beyond = rw (left, lost) at (c.in_ok-beyond.ensures.value vs) in
    let over = (extends_trans one (extends_trans two (extends_trans three four))).same _ c.requires.over vs in
    let out = six.same _ c.in_ok-out.ensures.owned vs ∙ rw (over, beyond) at (c.in_ok-out.ensures.value vs) in
    let rest = extends_trans three (extends_trans four five) in
    let digit_last = rest.same _ (two.kept _ (one.kept _ c.requires.digit)) vs ∙ digit_two in
    let times = reads_kept rest c.in_ok-times.ensures.made.owned vs in
    let square = reads_kept (extends_trans two rest) c.in_ok-square.ensures.made.owned vs in
    let next = ap nat_of (rw (digit_last, times, square) at (c.in_ok-next.ensures.value vs)) ∙ cond_nat (first c.args.digit) _ _ in
    let base = ap nat_of (reads_kept one c.requires.base vs) in
    let width = c.requires.alike in
    let squared = rw width at (c.in_ok-square.ensures.value vs) in
    let timed = rw (base, c.in_ok-square.ensures.made.width, width) at (c.in_ok-times.ensures.value vs) in
    rw (next, out) (power_more (length c.args.a.now) (nat_of (map first c.args.a.now)) e (nat_of (map first c.args.power.now)) (nat_of (map (reads c.product.new.g vs) c.in_ok-square.square.word)) (nat_of (map (reads c.product-2.new.g vs) c.in_ok-times.times.word))
    (first c.args.digit) (first c.args.over) (reads c.product.new.g vs c.in_ok-square.square.over) (reads c.product-2.new.g vs c.in_ok-times.times.over) c.requires.long u squared timed)

pub product-requires-2 : goal.product-requires-2
product-requires-2 g c = record { alike = omega (arith, c.in_ok-square.ensures.made.width); left = c.in_ok-square.ensures.made.owned; right = owns_kept c.product.ensures.extends c.requires.base }

pub returns-in_err-times-clause-extends : goal.returns-in_err-times-clause-extends
returns-in_err-times-clause-extends g c = extends_trans c.product.ensures.extends c.product-2.ensures.extends

pub and-requires : goal.and-requires
and-requires g c = record { left = (extends_trans c.product.ensures.extends c.product-2.ensures.extends).kept _ c.requires.digit; right = c.in_ok-times.ensures.made.owned_over }

pub returns-in_err-lost-clause-extends : goal.returns-in_err-lost-clause-extends
returns-in_err-lost-clause-extends g c = extends_trans c.product.ensures.extends (extends_trans c.product-2.ensures.extends c.and.ensures.extends)

pub or-requires : goal.or-requires
or-requires g c = record { left = (extends_trans c.product-2.ensures.extends c.and.ensures.extends).kept _ c.in_ok-square.ensures.made.owned_over; right = c.in_ok-lost.ensures.owned }

pub returns-in_err-beyond-clause-extends : goal.returns-in_err-beyond-clause-extends
returns-in_err-beyond-clause-extends g c = extends_trans c.product.ensures.extends (extends_trans c.product-2.ensures.extends (extends_trans c.and.ensures.extends c.or.ensures.extends))

pub or-requires-2 : goal.or-requires-2
or-requires-2 g c = record { left = (extends_trans c.product.ensures.extends (extends_trans c.product-2.ensures.extends (extends_trans c.and.ensures.extends c.or.ensures.extends))).kept _ c.requires.over; right = c.in_ok-beyond.ensures.owned }

pub returns-in_err-out-clause-extends : goal.returns-in_err-out-clause-extends
returns-in_err-out-clause-extends g c = extends_trans c.product.ensures.extends (extends_trans c.product-2.ensures.extends (extends_trans c.and.ensures.extends (extends_trans c.or.ensures.extends c.or-2.ensures.extends)))

pub choose_word-requires : goal.choose_word-requires
choose_word-requires g c = record { test = (extends_trans c.product.ensures.extends (extends_trans c.product-2.ensures.extends (extends_trans c.and.ensures.extends (extends_trans c.or.ensures.extends c.or-2.ensures.extends)))).kept _ c.requires.digit; alike = sym c.in_ok-times.ensures.made.width; yes = owns_kept (extends_trans c.and.ensures.extends (extends_trans c.or.ensures.extends c.or-2.ensures.extends)) c.in_ok-times.ensures.made.owned; no = owns_kept (extends_trans c.product-2.ensures.extends (extends_trans c.and.ensures.extends (extends_trans c.or.ensures.extends c.or-2.ensures.extends))) c.in_ok-square.ensures.made.owned }

pub returns-in_err-next-clause-extends : goal.returns-in_err-next-clause-extends
returns-in_err-next-clause-extends g c = extends_trans c.product.ensures.extends (extends_trans c.product-2.ensures.extends (extends_trans c.and.ensures.extends (extends_trans c.or.ensures.extends (extends_trans c.or-2.ensures.extends c.choose_word.ensures.extends))))

pub returns-clause-extends : goal.returns-clause-extends
returns-clause-extends g c = extends_trans c.product.ensures.extends (extends_trans c.product-2.ensures.extends (extends_trans c.and.ensures.extends (extends_trans c.or.ensures.extends (extends_trans c.or-2.ensures.extends c.choose_word.ensures.extends))))

pub returns-clause-made : goal.returns-clause-made
returns-clause-made g c = record {
  owned = c.in_ok-next.ensures.made.owned;
  owned_over = c.choose_word.ensures.extends.kept _ c.in_ok-out.ensures.owned;
  width = c.in_ok-next.ensures.made.width ∙ c.in_ok-times.ensures.made.width ∙ c.in_ok-square.ensures.made.width ∙ c.requires.alike;
}
