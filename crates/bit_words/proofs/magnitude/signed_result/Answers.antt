use Rattle.std.proofs.Common.{◌≡◌, ◌∙◌, ◌-◌, ◌^◌, ℕ, ap, length, map, arith, Bool, List, true, not}
use Rattle.bit_words.specs.Words.{nat_of, nat_read, int_read, is_within, signed, IsUnsigned}
use Rattle.bit_words.proofs.Kept.{reads_kept, owns_kept}
use Rattle.bit_words.proofs.Signs.{signed_number}
use Rattle.bit_words.specs.Words.{int_of}
use Rattle.bit_words.proofs.magnitude.signed_result.Given as given
use Rattle.bit_words.specs.Logic.{extends_trans}
use Rattle.bit_words.proofs.magnitude.signed_result.Goals as goal

both : (g : given.Over) (c : goal.After-drop-wide-inside-2 g) (vs : List Bool) (number : ℕ) →
    IsUnsigned (length c.args.size.now) number (nat_read g.L.Logic.reads c.args.g.now vs c.args.size.now) (g.L.Logic.reads c.args.g.now vs c.args.over) →
    let z = signed (g.L.Logic.reads c.args.g.now vs c.args.sign) number in
    (g.L.Logic.reads c.or.new.g vs c.in_ok-spilled.spilled ≡ not (is_within (2 ^ (length c.args.size.now - 1)) z))
    × (is_within (2 ^ (length c.args.size.now - 1)) z ≡ true → int_read g.L.Logic.reads c.or.new.g vs c.in_ok-number.number.word ≡ z)
both g c vs number u =
    let reads = g.L.Logic.reads in
    let first = reads c.args.g.now vs in
    let one = c.with_sign.ensures.extends in
    let two = c.narrow.ensures.extends in
    let three = c.or.ensures.extends in
    let size : c.len-width.result ≡ length c.args.size.now = omega arith in
    let over = two.same _ (one.kept _ c.requires.over) vs ∙ one.same _ c.requires.over vs in
    let spilled = rw over at (c.in_ok-spilled.ensures.value vs) in
    let kept = ap int_of (reads_kept three c.in_ok-number.ensures.made.owned vs) in
    let wide = c.in_ok-wide.ensures.value vs in
    let fit = signed_number (length c.args.size.now) number (nat_of (map first c.args.size.now)) (first c.args.sign) (first c.args.over) (reads c.narrow.new.g vs c.in_ok-number.number.over) (int_of (map (reads c.narrow.new.g vs) c.in_ok-number.number.word)) c.requires.some u
    (rw (wide, size) at (c.in_ok-number.ensures.over vs)) (rw (wide, size) at (c.in_ok-number.ensures.value vs)) in
    rw (spilled, kept) fit

pub returns-clause-over : goal.returns-clause-over
returns-clause-over g c vs number u = (both g c vs number u).0

pub returns-clause-value : goal.returns-clause-value
returns-clause-value g c vs number u = (both g c vs number u).1

pub returns-in_err-wide-clause-extends : goal.returns-in_err-wide-clause-extends
returns-in_err-wide-clause-extends g c = c.with_sign.ensures.extends

pub narrow-requires : goal.narrow-requires
narrow-requires g c = record { some = omega arith; wider = omega (arith, c.in_ok-wide.ensures.made.width); owned = c.in_ok-wide.ensures.made.owned }

pub returns-in_err-number-clause-extends : goal.returns-in_err-number-clause-extends
returns-in_err-number-clause-extends g c = extends_trans c.with_sign.ensures.extends c.narrow.ensures.extends

pub or-requires : goal.or-requires
or-requires g c = record { left = (extends_trans c.with_sign.ensures.extends c.narrow.ensures.extends).kept _ c.requires.over; right = c.in_ok-number.ensures.made.owned_over }

pub returns-in_err-spilled-clause-extends : goal.returns-in_err-spilled-clause-extends
returns-in_err-spilled-clause-extends g c = extends_trans c.with_sign.ensures.extends (extends_trans c.narrow.ensures.extends c.or.ensures.extends)

pub returns-clause-extends : goal.returns-clause-extends
returns-clause-extends g c = extends_trans c.with_sign.ensures.extends (extends_trans c.narrow.ensures.extends c.or.ensures.extends)

pub returns-clause-made : goal.returns-clause-made
returns-clause-made g c = record {
  owned = owns_kept c.or.ensures.extends c.in_ok-number.ensures.made.owned;
  owned_over = c.in_ok-spilled.ensures.owned;
  width = c.in_ok-number.ensures.made.width ∙ c.len-width.ensures;
}
