use Rattle.std.proofs.Common.{◌≡◌, ◌<◌, ◌∙◌, ◌^◌, ◌&&◌, ◌∷◌, zero, List, Bool, ap, sym, length, map, drop, not, arith, subst}
use Rattle.std.specs.Prelude.{ℤ}
use Rattle.std.specs.Int.RustNames.{unsigned_abs}
use Rattle.std.proofs.lemmas.List.{length-map}
use Rattle.bit_words.specs.Logic.{extends_trans}
use Rattle.bit_words.specs.Words.{int_of, int_read, nat_of, nat_read, is_negative, signed, IsUnsigned, OverflowsAs, Holds}
use Rattle.bit_words.specs.Operations.{exponent_of, int_power}
use Rattle.bit_words.proofs.Kept.{owns_read, reads_kept, drop_read, owns_kept}
use Rattle.bit_words.proofs.Products.{nat_masked}
use Rattle.bit_words.proofs.Powers.{power_is, power_over, exponent_is}
use Rattle.bit_words.proofs.power.power_by.Given as given
use Rattle.bit_words.proofs.power.power_by.Goals as goal

exponent_read : (g : given.Over) (c : goal.After-drop-size-inside-2 g) (vs : List Bool) →
    nat_read g.L.Logic.reads c.mask.new.g vs c.in_ok-exponent.exponent ≡ exponent_of (int_read g.L.Logic.reads c.args.g.now vs c.args.b.now)
exponent_read g c vs =
    let bits = map (g.L.Logic.reads c.args.g.now vs) c.args.b.now in
    let one = c.magnitude.ensures.extends in
    let positive = one.same _ c.not-positive.ensures.owned vs ∙ c.not-positive.ensures.value vs ∙ ap not (c.sign_of-negative.ensures.value vs) in
    let some : 0 < length bits = simp length-map (omega arith) in
    ap nat_of (rw (positive, reads_kept one c.requires.right vs) at (c.in_ok-exponent.ensures.value vs)) ∙ nat_masked (not (is_negative (int_of bits))) bits ∙ exponent_is bits some

number_is : (g : given.Over) (c : goal.After-drop-size-inside-2 g) (vs : List Bool) →
    signed (g.L.Logic.reads c.and.new.self vs c.in_ok-sign.sign) (unsigned_abs (int_read g.L.Logic.reads c.args.g.now vs c.args.a.now) ^ nat_read g.L.Logic.reads c.mask.new.g vs c.in_ok-exponent.exponent)
    ≡ int_power (int_read g.L.Logic.reads c.args.g.now vs c.args.a.now) (exponent_of (int_read g.L.Logic.reads c.args.g.now vs c.args.b.now))
number_is g c vs =
    let reads = g.L.Logic.reads in
    let masked = reads c.mask.new.g vs in
    let a = int_read reads c.args.g.now vs c.args.a.now in
    let exponent = c.in_ok-exponent.exponent in
    let odd_owned = owns_read zero c.in_ok-exponent.ensures.made.owned c.at-odd.ensures in
    let steps = extends_trans c.magnitude.ensures.extends (extends_trans c.mask.ensures.extends c.unsigned_power.ensures.extends) in
    let below = steps.same _ c.sign_of-below.ensures.owned vs ∙ c.sign_of-below.ensures.value vs in
    let odd = c.unsigned_power.ensures.extends.same _ odd_owned vs in
    let sign = rw (below, odd) at (c.in_ok-sign.ensures.value vs) in
    let digits : map masked exponent ≡ masked c.at-odd.result ∷ drop 1 (map masked exponent) = drop_read masked exponent zero c.at-odd.result c.at-odd.ensures in
    let raised : signed (is_negative a && masked c.at-odd.result) (unsigned_abs a ^ nat_of (map masked exponent)) ≡ int_power a (nat_of (map masked exponent))
    = subst (λ (v : List Bool). signed (is_negative a && masked c.at-odd.result) (unsigned_abs a ^ nat_of v) ≡ int_power a (nat_of v)) (sym digits) (sym (power_is a (masked c.at-odd.result) (drop 1 (map masked exponent)))) in
    rw sign (raised ∙ ap (int_power a) (exponent_read g c vs))

size_is : (g : given.Over) (c : goal.After-drop-size-inside-2 g) (vs : List Bool) →
    IsUnsigned (length c.in_ok-raised.raised.word) (unsigned_abs (int_read g.L.Logic.reads c.args.g.now vs c.args.a.now) ^ nat_read g.L.Logic.reads c.mask.new.g vs c.in_ok-exponent.exponent)
    (nat_read g.L.Logic.reads c.and.new.self vs c.in_ok-raised.raised.word) (g.L.Logic.reads c.and.new.self vs c.in_ok-raised.raised.over)
size_is g c vs =
    let four = c.and.ensures.extends in
    let base = ap nat_of (reads_kept c.mask.ensures.extends c.in_ok-size.ensures.made.owned vs) ∙ c.in_ok-size.ensures.value vs in
    let kept = ap nat_of (reads_kept four c.in_ok-raised.ensures.made.owned vs) in
    let spilled = four.same _ c.in_ok-raised.ensures.made.owned_over vs in
    rw (kept, spilled, c.in_ok-raised.ensures.made.width) (rw base at (c.in_ok-raised.ensures.value vs))

pub returns-clause-over : goal.returns-clause-over
returns-clause-over g c vs =
    let width = c.in_ok-raised.ensures.made.width ∙ c.in_ok-size.ensures.made.width in
    power_over (length c.args.a.now) (int_read g.L.Logic.reads c.args.g.now vs c.args.a.now) (int_read g.L.Logic.reads c.args.g.now vs c.args.b.now) (g.L.Logic.reads c.signed_result.new.g vs c.in_ok-number.number.over) c.requires.long
    (subst (λ (z : ℤ). OverflowsAs (g.L.Logic.reads c.signed_result.new.g vs c.in_ok-number.number.over) (length c.args.a.now) z) (number_is g c vs) (rw width at (c.in_ok-number.ensures.over vs _ (size_is g c vs))))

pub returns-clause-value : goal.returns-clause-value
returns-clause-value g c vs =
    let width = c.in_ok-raised.ensures.made.width ∙ c.in_ok-size.ensures.made.width in
    subst (λ (z : ℤ). Holds (int_read g.L.Logic.reads c.signed_result.new.g vs c.in_ok-number.number.word) (length c.args.a.now) z) (number_is g c vs) (rw width at (c.in_ok-number.ensures.value vs _ (size_is g c vs)))

pub mask-requires : goal.mask-requires
mask-requires g c = record { test = c.magnitude.ensures.extends.kept _ c.not-positive.ensures.owned; word = owns_kept c.magnitude.ensures.extends c.requires.right }

pub returns-in_err-exponent-clause-extends : goal.returns-in_err-exponent-clause-extends
returns-in_err-exponent-clause-extends g c = extends_trans c.magnitude.ensures.extends c.mask.ensures.extends

pub unsigned_power-requires : goal.unsigned_power-requires
unsigned_power-requires g c = record { long = omega (arith, c.in_ok-size.ensures.made.width); base = owns_kept c.mask.ensures.extends c.in_ok-size.ensures.made.owned; exponent = c.in_ok-exponent.ensures.made.owned }

pub returns-in_err-raised-clause-extends : goal.returns-in_err-raised-clause-extends
returns-in_err-raised-clause-extends g c = extends_trans c.magnitude.ensures.extends (extends_trans c.mask.ensures.extends c.unsigned_power.ensures.extends)

pub and-requires : goal.and-requires
and-requires g c = record { left = (extends_trans c.magnitude.ensures.extends (extends_trans c.mask.ensures.extends c.unsigned_power.ensures.extends)).kept _ c.sign_of-below.ensures.owned; right = c.unsigned_power.ensures.extends.kept _ (owns_read zero c.in_ok-exponent.ensures.made.owned c.at-odd.ensures) }

pub returns-in_err-sign-clause-extends : goal.returns-in_err-sign-clause-extends
returns-in_err-sign-clause-extends g c = extends_trans c.magnitude.ensures.extends (extends_trans c.mask.ensures.extends (extends_trans c.unsigned_power.ensures.extends c.and.ensures.extends))

pub signed_result-requires : goal.signed_result-requires
signed_result-requires g c = record { some = omega (arith, c.in_ok-raised.ensures.made.width, c.in_ok-size.ensures.made.width); sign = c.in_ok-sign.ensures.owned; word = owns_kept c.and.ensures.extends c.in_ok-raised.ensures.made.owned; over = c.and.ensures.extends.kept _ c.in_ok-raised.ensures.made.owned_over }

pub returns-in_err-number-clause-extends : goal.returns-in_err-number-clause-extends
returns-in_err-number-clause-extends g c = extends_trans c.magnitude.ensures.extends (extends_trans c.mask.ensures.extends (extends_trans c.unsigned_power.ensures.extends (extends_trans c.and.ensures.extends c.signed_result.ensures.extends)))

pub returns-clause-extends : goal.returns-clause-extends
returns-clause-extends g c = extends_trans c.magnitude.ensures.extends (extends_trans c.mask.ensures.extends (extends_trans c.unsigned_power.ensures.extends (extends_trans c.and.ensures.extends c.signed_result.ensures.extends)))

pub returns-clause-made : goal.returns-clause-made
returns-clause-made g c = record {
  owned = c.in_ok-number.ensures.made.owned;
  owned_over = c.in_ok-number.ensures.made.owned_over;
  width = c.in_ok-number.ensures.made.width ∙ c.in_ok-raised.ensures.made.width ∙ c.in_ok-size.ensures.made.width;
}
