use Rattle.std.proofs.Common.{◌≡◌, ◌∙◌, ◌*◌, ap, sym, length, subst, List, Bool, arith}
use Rattle.std.specs.Prelude.{ℤ, ◌*ℤ◌}
use Rattle.std.specs.Int.RustNames.{unsigned_abs}
use Rattle.bit_words.specs.Logic.{extends_trans}
use Rattle.bit_words.specs.Words.{nat_of, int_of, nat_read, int_read, signed, IsUnsigned, OverflowsAs, Holds}
use Rattle.bit_words.proofs.Kept.{reads_kept, owns_kept}
use Rattle.bit_words.proofs.Signs.{product_signed}
use Rattle.bit_words.proofs.product.mul.Given as given
use Rattle.bit_words.proofs.product.mul.Goals as goal

size_is : (g : given.Over) (c : goal.After-drop-left-inside-2 g) (vs : List Bool) →
    IsUnsigned (length c.in_ok-size.size.word) (unsigned_abs (int_read g.L.Logic.reads c.args.g.now vs c.args.a.now) * unsigned_abs (int_read g.L.Logic.reads c.args.g.now vs c.args.b.now))
    (nat_read g.L.Logic.reads c.xor.new.self vs c.in_ok-size.size.word) (g.L.Logic.reads c.xor.new.self vs c.in_ok-size.size.over)
size_is g c vs =
    let one = c.magnitude.ensures.extends in
    let two = c.magnitude-2.ensures.extends in
    let four = c.xor.ensures.extends in
    let left = ap nat_of (reads_kept two c.in_ok-left.ensures.made.owned vs) ∙ c.in_ok-left.ensures.value vs in
    let right = c.in_ok-right.ensures.value vs ∙ ap (λ v. unsigned_abs (int_of v)) (reads_kept one c.requires.right vs) in
    let kept = ap nat_of (reads_kept four c.in_ok-size.ensures.made.owned vs) in
    let spilled = four.same _ c.in_ok-size.ensures.made.owned_over vs in
    rw (kept, spilled, c.in_ok-size.ensures.made.width) (rw (left, right) at (c.in_ok-size.ensures.value vs))

number_is : (g : given.Over) (c : goal.After-drop-left-inside-2 g) (vs : List Bool) →
    signed (g.L.Logic.reads c.xor.new.self vs c.in_ok-sign.sign) (unsigned_abs (int_read g.L.Logic.reads c.args.g.now vs c.args.a.now) * unsigned_abs (int_read g.L.Logic.reads c.args.g.now vs c.args.b.now))
    ≡ int_read g.L.Logic.reads c.args.g.now vs c.args.a.now *ℤ int_read g.L.Logic.reads c.args.g.now vs c.args.b.now
number_is g c vs =
    let steps = extends_trans c.magnitude.ensures.extends (extends_trans c.magnitude-2.ensures.extends c.product.ensures.extends) in
    let left = steps.same _ c.sign_of-left_sign.ensures.owned vs ∙ c.sign_of-left_sign.ensures.value vs in
    let right = steps.same _ c.sign_of-right_sign.ensures.owned vs ∙ c.sign_of-right_sign.ensures.value vs in
    rw (c.in_ok-sign.ensures.value vs, left, right) (sym (product_signed (int_read g.L.Logic.reads c.args.g.now vs c.args.a.now) (int_read g.L.Logic.reads c.args.g.now vs c.args.b.now)))

pub returns-clause-over : goal.returns-clause-over
returns-clause-over g c vs =
    let width = c.in_ok-size.ensures.made.width ∙ c.in_ok-left.ensures.made.width in
    subst (λ (z : ℤ). OverflowsAs (g.L.Logic.reads c.signed_result.new.g vs c.in_ok-number.number.over) (length c.args.a.now) z) (number_is g c vs)
    (rw width at (c.in_ok-number.ensures.over vs _ (size_is g c vs)))

pub returns-clause-value : goal.returns-clause-value
returns-clause-value g c vs =
    let width = c.in_ok-size.ensures.made.width ∙ c.in_ok-left.ensures.made.width in
    subst (λ (z : ℤ). Holds (int_read g.L.Logic.reads c.signed_result.new.g vs c.in_ok-number.number.word) (length c.args.a.now) z) (number_is g c vs)
    (rw width at (c.in_ok-number.ensures.value vs _ (size_is g c vs)))

pub magnitude-requires-2 : goal.magnitude-requires-2
magnitude-requires-2 g c = record { some = omega arith; word = owns_kept c.magnitude.ensures.extends c.requires.right }

pub returns-in_err-right-clause-extends : goal.returns-in_err-right-clause-extends
returns-in_err-right-clause-extends g c = extends_trans c.magnitude.ensures.extends c.magnitude-2.ensures.extends

pub product-requires : goal.product-requires
product-requires g c = record { alike = omega (arith, c.in_ok-left.ensures.made.width, c.in_ok-right.ensures.made.width); left = owns_kept c.magnitude-2.ensures.extends c.in_ok-left.ensures.made.owned; right = c.in_ok-right.ensures.made.owned }

pub returns-in_err-size-clause-extends : goal.returns-in_err-size-clause-extends
returns-in_err-size-clause-extends g c = extends_trans c.magnitude.ensures.extends (extends_trans c.magnitude-2.ensures.extends c.product.ensures.extends)

pub xor-requires : goal.xor-requires
xor-requires g c = record { left = (extends_trans c.magnitude.ensures.extends (extends_trans c.magnitude-2.ensures.extends c.product.ensures.extends)).kept _ c.sign_of-left_sign.ensures.owned; right = (extends_trans c.magnitude.ensures.extends (extends_trans c.magnitude-2.ensures.extends c.product.ensures.extends)).kept _ c.sign_of-right_sign.ensures.owned }

pub returns-in_err-sign-clause-extends : goal.returns-in_err-sign-clause-extends
returns-in_err-sign-clause-extends g c = extends_trans c.magnitude.ensures.extends (extends_trans c.magnitude-2.ensures.extends (extends_trans c.product.ensures.extends c.xor.ensures.extends))

pub signed_result-requires : goal.signed_result-requires
signed_result-requires g c = record { some = omega (arith, c.in_ok-size.ensures.made.width, c.in_ok-left.ensures.made.width); sign = c.in_ok-sign.ensures.owned; word = owns_kept c.xor.ensures.extends c.in_ok-size.ensures.made.owned; over = c.xor.ensures.extends.kept _ c.in_ok-size.ensures.made.owned_over }

pub returns-in_err-number-clause-extends : goal.returns-in_err-number-clause-extends
returns-in_err-number-clause-extends g c = extends_trans c.magnitude.ensures.extends (extends_trans c.magnitude-2.ensures.extends (extends_trans c.product.ensures.extends (extends_trans c.xor.ensures.extends c.signed_result.ensures.extends)))

pub returns-clause-extends : goal.returns-clause-extends
returns-clause-extends g c = extends_trans c.magnitude.ensures.extends (extends_trans c.magnitude-2.ensures.extends (extends_trans c.product.ensures.extends (extends_trans c.xor.ensures.extends c.signed_result.ensures.extends)))

pub returns-clause-made : goal.returns-clause-made
returns-clause-made g c = record {
  owned = c.in_ok-number.ensures.made.owned;
  owned_over = c.in_ok-number.ensures.made.owned_over;
  width = c.in_ok-number.ensures.made.width ∙ c.in_ok-size.ensures.made.width ∙ c.in_ok-left.ensures.made.width;
}
