-- Numbers beside constants, digit by digit.
use Rattle.std.proofs.Common.{◌≡◌, ◌∙◌, ◌≤◌, not, List, [], ◌∷◌, ◌++◌, map, ℕ, suc, zero, ◌<◌, ◌+◌, ◌*◌, ◌^◌, eqb, ltb, Bool, true, false, refl, ap, arith, subst, sym}
use Rattle.bit_words.proofs.Naturals.{power_double}
use Rattle.std.specs.Prelude.{◌%◌, ◌/◌, ℤ, pos, negsuc, ◌+ℤ◌}
use Rattle.std.proofs.lemmas.Bool.Decides.{nat_tests}
use Rattle.bit_words.specs.Words.{bit_value, int_of, is_negative, is_within, nat_of}
use Rattle.bit_words.specs.Operations.{folded}
use Rattle.bit_words.proofs.Signs.{unsigned_int}
use Rattle.std.proofs.lemmas.Int.{ints}
use Rattle.std.proofs.lemmas.List.{map_push}

digit_cases : (p low rest number : ℕ) (d : Bool) → eqb (rest % 2) 1 ≡ d → low < p → low + p * rest ≡ number
    → (low + p * bit_value d < p + p) × (low + p * bit_value d + (p + p) * (rest / 2) ≡ number)
digit_cases p low rest number true e h k =
    let q : ℕ = rest / 2 in
    let odd : rest % 2 ≡ 1 = grind (arith, nat_tests) in
    let whole : rest ≡ q + q + 1 = omega arith in
    let product : p * rest ≡ p * (q + q + 1) = ap (λ n. p * n) whole in
    (omega arith, omega arith)
digit_cases p low rest number false e h k =
    let q : ℕ = rest / 2 in
    let even : rest % 2 ≡ 0 = grind (arith, nat_tests) in
    let whole : rest ≡ q + q = omega arith in
    let product : p * rest ≡ p * (q + q) = ap (λ n. p * n) whole in
    (omega arith, omega arith)

-- a constant's next digit
pub digit_step : (i low rest number : ℕ) → low < 2 ^ i → low + 2 ^ i * rest ≡ number
    → (low + 2 ^ i * bit_value (eqb (rest % 2) 1) < 2 ^ (i + 1)) × (low + 2 ^ i * bit_value (eqb (rest % 2) 1) + 2 ^ (i + 1) * (rest / 2) ≡ number)
digit_step i low rest number h k =
    let next : i + 1 ≡ suc i = omega arith in
    let double : 2 ^ (i + 1) ≡ 2 ^ i + 2 ^ i = ap (λ (n : ℕ). 2 ^ n) next ∙ power_double i in
    let both = digit_cases (2 ^ i) low rest number (eqb (rest % 2) 1) refl h k in (
      subst (λ (p : ℕ). low + 2 ^ i * bit_value (eqb (rest % 2) 1) < p) (sym double) both.0,
      subst (λ (p : ℕ). low + 2 ^ i * bit_value (eqb (rest % 2) 1) + p * (rest / 2) ≡ number) (sym double) both.1,
    )

-- a constant that has more digits
pub past_below : (p n low rest number : ℕ) → n < p → 0 < rest → low + p * rest ≡ number → ltb n number ≡ true
past_below p n low zero number h k e = absurd (omega arith)
past_below p n low (suc r) number h k e = let lt : n < number = omega arith in grind (arith, nat_tests)

pub past_apart : (p n low rest number : ℕ) → n < p → 0 < rest → low + p * rest ≡ number → eqb n number ≡ false
past_apart p n low zero number h k e = absurd (omega arith)
past_apart p n low (suc r) number h k e = let lt : n < number = omega arith in grind (arith, nat_tests)

-- a constant leaves a width where digits are left of it
left_cases : (p m low rest : ℕ) → low < p → low + p * rest ≡ m → ltb 0 rest ≡ not (ltb m p)
left_cases p m low zero h e = let lt : m < p = omega arith in grind (arith, nat_tests)
left_cases p m low (suc r) h e = let le : p ≤ m = omega arith in grind (arith, nat_tests)

pub digits_left : (p : ℕ) (z : ℤ) (low rest : ℕ) → low < p → low + p * rest ≡ folded z → ltb 0 rest ≡ not (is_within p z)
digits_left p (pos m) low rest h e = left_cases p m low rest h e
digits_left p (negsuc m) low rest h e = left_cases p m low rest h e

none_left : (p m low rest : ℕ) → low + p * rest ≡ m → ltb m p ≡ true → low ≡ m
none_left p m low zero e h = omega arith
none_left p m low (suc r) e h = let lt : m < p = grind (arith, nat_tests) in absurd (omega arith)

pub constant_is : (p : ℕ) (z : ℤ) (low rest : ℕ) → is_negative z ≡ false → low + p * rest ≡ folded z → is_within p z ≡ true → pos low ≡ z
constant_is p (pos m) low rest n e h = ap pos (none_left p m low rest e h)
constant_is p (negsuc m) low rest n e h = cc

pub complement_is : (p : ℕ) (z y : ℤ) (low rest : ℕ) → is_negative z ≡ true → low + p * rest ≡ folded z → is_within p z ≡ true
    → y +ℤ pos low ≡ negsuc 0 → y ≡ z
complement_is p (pos m) y low rest n e h k = cc
complement_is p (negsuc m) y low rest n e h k = let same = none_left p m low rest e h in omega (arith, ints)

-- digits and a highest one that is false
pub with_zero : {B : Type 0} (f : B → Bool) (w w' : List B) (b : B) → f b ≡ false → w' ≡ w ++ b ∷ [] → int_of (map f w') ≡ pos (nat_of (map f w))
with_zero f w w' b none e =
    ap (λ v. int_of (map f v)) e ∙ ap int_of (map_push f w b) ∙ ap (λ d. int_of (map f w ++ d ∷ [])) none ∙ unsigned_int (map f w)
