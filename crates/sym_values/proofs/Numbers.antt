-- The language's operations on numbers, and those of words.
use Rattle.std.proofs.Common.{◌≡◌, ℕ, zero, suc, ◌*◌, ◌/◌, ◌%◌, ◌^◌, Bool, true, false, cond, not, refl, sym, ap, ◌∙◌, subst, arith, inl, inr, ◌⊎◌, List}
use Rattle.std.specs.Prelude.{ℤ, pos, negsuc, ◌-ℤ◌, ◌*ℤ◌, neg_ℤ, if◌then◌else◌, ◌≢◌, ◌||◌, ◌&&◌, ◌==◌, int_lt, int_le}
use Rattle.std.specs.Int.{int_pow}
use Rattle.std.specs.Ordering.{int_eq}
use Rattle.std.specs.declared.result.Result.TheVariants.{Err}
use Rattle.std.proofs.lemmas.Int.{ints}
use Rattle.std.proofs.lemmas.Bool.Decides.{nat_tests}
use Rattle.std.proofs.lemmas.Bool.{cases_lt}
use Rattle.std.proofs.Math.Nat.{pow-succ', pow-zero}
use Rattle.mpy_tree.specs.declared.limits.Limits.{Limits}
use Rattle.mpy_tree.specs.declared.value.Value.TheVariants as val
use Rattle.mpy_tree.specs.declared.outcome.FaultKind.TheVariants as kind
use Rattle.mpy_tree.specs.declared.outcome.Halt.TheVariants.{Fault}
use Rattle.mpy_tree.specs.Operations.{fits_width, number, floor, is_zero, quotient, remainder, power}
use Rattle.bit_words.specs.Words.{int_of, fits, Holds, OverflowsAs, is_negative}
use Rattle.bit_words.specs.Operations.{floor_quotient, floor_remainder, int_power, exponent_of}
use Rattle.sym_values.specs.Reading.{IsOutcome, sure}

-- the two tests of a width are one
pub same_fits : (width : ℕ) (z : ℤ) → fits width z ≡ fits_width width z
same_fits width (pos n) = refl
same_fits width (negsuc n) = refl

tested : (b over : Bool) (l : Limits) (z total : ℤ) → fits_width l.width total ≡ b → over ≡ not b → (b ≡ true → z ≡ total)
    → IsOutcome over (sure (val.Int z)) (number l total)
tested true over l z total e p q = rw e (p, ap (λ n. sure (val.Int n)) (q refl))
tested false over l z total e p q = rw e p

-- a number that is tested for the width
pub number_is : (l : Limits) (width : ℕ) (over : Bool) (z total : ℤ) → l.width ≡ width → OverflowsAs over width total → Holds z width total
    → IsOutcome over (sure (val.Int z)) (number l total)
number_is l width over z total e p q =
    let same : fits width total ≡ fits_width l.width total = ap (λ w. fits w total) (sym e) ∙ same_fits l.width total in
    tested (fits_width l.width total) over l z total refl (p ∙ ap not same) (λ h. q (same ∙ h))

nothing_times : (a : ℕ) → suc a * 0 ≡ 0
nothing_times a = omega arith

nothing_by : (n : ℕ) → 0 / suc n ≡ 0
nothing_by n = omega arith

-- the two quotients are one, but for none by 0
pub same_floor : (a b : ℤ) → floor_quotient a b ≡ floor a b
same_floor (pos a) (pos b) = refl
same_floor (negsuc a) (pos b) = refl
same_floor (pos zero) (negsuc b) = ap pos (nothing_by b)
same_floor (pos (suc a)) (negsuc b) = refl
same_floor (negsuc a) (negsuc b) = refl

pub same_remainder : (a b : ℤ) → floor_remainder a b ≡ a -ℤ (b *ℤ floor a b)
same_remainder a b = ap (λ q. a -ℤ (b *ℤ q)) (same_floor a b)

-- the result of a division, by whether the divisor is 0
divided : (l : Limits) (width : ℕ) (over fault zero_by : Bool) (z total : ℤ) → l.width ≡ width
    → (zero_by ≡ false → OverflowsAs over width total) → (zero_by ≡ false → Holds z width total) → fault ≡ (zero_by || over)
    → IsOutcome fault (sure (val.Int z)) (if zero_by then Err (Fault kind.Divisor) else number l total)
divided l width over fault true z total e p q r = r
divided l width over fault false z total e p q r =
    subst (λ (f : Bool). IsOutcome f (sure (val.Int z)) (number l total)) (sym r) (number_is l width over z total e (p refl) (q refl))

zero_test : (b : ℤ) → int_eq b (pos 0) ≡ is_zero b
zero_test (pos zero) = refl
zero_test (pos (suc n)) = grind (arith, nat_tests)
zero_test (negsuc n) = refl

not_zero : (b : ℤ) → is_zero b ≡ false → b ≢ pos 0
not_zero (pos zero) e = absurd (cc)
not_zero (pos (suc n)) e = λ h. absurd (omega (arith, ints))
not_zero (negsuc n) e = λ h. absurd (omega (arith, ints))

pub quotient_is : (l : Limits) (width : ℕ) (none over fault : Bool) (z a b : ℤ) → l.width ≡ width → none ≡ int_eq b (pos 0)
    → OverflowsAs over width (floor_quotient a b) → Holds z width (floor_quotient a b) → fault ≡ (none || over)
    → IsOutcome fault (sure (val.Int z)) (quotient l a b)
quotient_is l width none over fault z a b e n p q r =
    let same = same_floor a b in
    divided l width over fault (is_zero b) z (floor a b) e (λ h. rw same at p) (λ h. rw same at q) (r ∙ ap (λ i. i || over) (n ∙ zero_test b))

pub remainder_is : (l : Limits) (width : ℕ) (none over fault : Bool) (z a b : ℤ) → l.width ≡ width → none ≡ int_eq b (pos 0)
    → OverflowsAs over width (floor_remainder a b) → (b ≢ pos 0 → z ≡ floor_remainder a b) → fault ≡ (none || over)
    → IsOutcome fault (sure (val.Int z)) (remainder l a b)
remainder_is l width none over fault z a b e n p q r =
    let same = same_remainder a b in
    divided l width over fault (is_zero b) z (a -ℤ (b *ℤ floor a b)) e (λ h. rw same at p) (λ h f. q (not_zero b h) ∙ same) (r ∙ ap (λ i. i || over) (n ∙ zero_test b))

-- a power is repeated multiplication
power_positive : (a n : ℕ) → int_power (pos a) n ≡ pos (a ^ n)
power_positive a zero = ap pos (sym (pow-zero a))
power_positive a (suc n) = ap (λ z. pos a *ℤ z) (power_positive a n) ∙ ap pos (sym (pow-succ' a n))

neg_times : (a m : ℕ) → negsuc a *ℤ pos m ≡ neg_ℤ (pos (suc a * m))
neg_times a zero = omega (arith, ints)
neg_times a (suc m) = omega (arith, ints)

turned : (a m : ℕ) (even : Bool) → negsuc a *ℤ cond even (pos m) (neg_ℤ (pos m)) ≡ cond even (neg_ℤ (pos (suc a * m))) (pos (suc a * m))
turned a m true = neg_times a m
turned a zero false = rw (nothing_times a) refl
turned a (suc m) false = refl

flipped_by : (a b : ℕ) (x y : ℤ) → (a ≡ 0) × (b ≡ 1) ⊎ (a ≡ 1) × (b ≡ 0) → cond (a == 0) y x ≡ cond (b == 0) x y
flipped_by a b x y (inl h) = rw (h.0, h.1) refl
flipped_by a b x y (inr h) = rw (h.0, h.1) refl

parity : (n : ℕ) → (n % 2 ≡ 0) × (suc n % 2 ≡ 1) ⊎ (n % 2 ≡ 1) × (suc n % 2 ≡ 0)
parity n = elim (cases_lt (n % 2) 1) [
  | inl h ↦ inl (omega arith, omega arith)
  | inr h ↦ inr (omega arith, omega arith)
]

flipped : (n : ℕ) (x y : ℤ) → cond (n % 2 == 0) y x ≡ cond (suc n % 2 == 0) x y
flipped n x y = flipped_by (n % 2) (suc n % 2) x y (parity n)

pub same_power : (a : ℤ) (n : ℕ) → int_power a n ≡ int_pow a n
same_power (pos a) n = power_positive a n
same_power (negsuc a) zero = ap pos (sym (pow-zero (suc a)))
same_power (negsuc a) (suc n) =
    ap (λ z. negsuc a *ℤ z) (same_power (negsuc a) n)
    ∙ turned a (suc a ^ n) (n % 2 == 0)
    ∙ flipped n (pos (suc a * suc a ^ n)) (neg_ℤ (pos (suc a * suc a ^ n)))
    ∙ ap (λ m. cond (suc n % 2 == 0) (pos m) (neg_ℤ (pos m))) (sym (pow-succ' (suc a) n))

pub power_is : (l : Limits) (width : ℕ) (below over fault : Bool) (z a b : ℤ) → l.width ≡ width → below ≡ is_negative b
    → over ≡ (not (is_negative b) && not (fits width (int_power a (exponent_of b)))) → Holds z width (int_power a (exponent_of b)) → fault ≡ (below || over)
    → IsOutcome fault (sure (val.Int z)) (power l a b)
power_is l width below over fault z a (pos n) e s p q r =
    let same = same_power a n in
    subst (λ (f : Bool). IsOutcome f (sure (val.Int z)) (number l (int_pow a n))) (sym (r ∙ ap (λ i. i || over) s))
    (number_is l width over z (int_pow a n) e (rw same at p) (rw same at q))
power_is l width below over fault z a (negsuc n) e s p q r = r ∙ ap (λ i. i || over) s

-- one number is no greater than another where that isn't below it
pub not_above : (a b : ℤ) → not (int_lt b a) ≡ int_le a b
not_above (pos a) (pos b) = grind (arith, nat_tests)
not_above (pos a) (negsuc b) = refl
not_above (negsuc a) (pos b) = refl
not_above (negsuc a) (negsuc b) = grind (arith, nat_tests)

pub chosen_number : (t : Bool) (v w : List Bool) → int_of (cond t v w) ≡ cond t (int_of v) (int_of w)
chosen_number true v w = refl
chosen_number false v w = refl
