-- Powers, digit by digit.
use Rattle.std.proofs.Common.{◌≡◌, ℕ, zero, suc, ◌<◌, ◌≤◌, ◌+◌, ◌*◌, ◌^◌, ◌-◌, ltb, Bool, true, false, not, ◌&&◌, ◌||◌, List, ◌∷◌, length, cond, refl, sym, ap, ◌∙◌, arith, subst}
use Rattle.std.specs.Prelude.{ℤ, pos, negsuc, ◌+ℤ◌, ◌*ℤ◌}
use Rattle.std.specs.Int.RustNames.{unsigned_abs}
use Rattle.std.proofs.lemmas.Bool.Decides.{nat_tests}
use Rattle.std.proofs.lemmas.Int.{ints}
use Rattle.std.proofs.lemmas.Nat.{pow-add}
use Rattle.std.proofs.Math.Nat.{pow-succ', pow-zero}
use Rattle.bit_words.specs.Bits.{differ}
use Rattle.bit_words.specs.Words.{bit_value, nat_of, int_of, is_negative, fits, signed, IsUnsigned}
use Rattle.bit_words.specs.Operations.{exponent_of, int_power}
use Rattle.bit_words.proofs.Naturals.{power_double}
use Rattle.bit_words.proofs.Integers.{parts}
use Rattle.bit_words.proofs.Products.{Fit, exceeds, turn, not_below, to_fit, of_fit}
use Rattle.bit_words.proofs.Signs.{power_positive}

-- a base of a large power is at least 1, so a multiple of it is no smaller
grows : (x y : ℕ) → 1 ≤ y → x ≤ x * y
grows x zero h = absurd (omega arith)
grows x (suc y) h = omega arith

fit_true : (q n s : ℕ) (o : Bool) → q ≤ n → o ≡ true → Fit q n s o
fit_true q n s o h e = subst (λ (b : Bool). Fit q n s b) (sym e) (exceeds q n s h)

-- x is the power so far, y its square and z once more the base
digit_cases : (q a x y z acc sq times : ℕ) (d over left spilled : Bool) → 2 ≤ q → y ≡ x * x → z ≡ y * a → (q ≤ x → 1 ≤ a) → (q ≤ y → 1 ≤ a)
    → Fit q x acc over → Fit q (acc * acc) sq left → Fit q (sq * a) times spilled → Fit q (cond d z y) (cond d times sq) (over || (left || (d && spilled)))
unfolding Fit
digit_cases q a x y z acc sq times true true left spilled two ey ez ax ay f h k =
    let big : q ≤ x = not_below x q f.0 in
    let square : q ≤ y = omega (arith, ey, grows x x (omega arith)) in
    exceeds q z times (omega (arith, ez, grows y a (ax big)))
digit_cases q a x y z acc sq times false true left spilled two ey ez ax ay f h k =
    let big : q ≤ x = not_below x q f.0 in
    exceeds q y sq (omega (arith, ey, grows x x (omega arith)))
digit_cases q a x y z acc sq times true false true spilled two ey ez ax ay f h k =
    let same : acc ≡ x = f.1 (turn (ltb x q) f.0) in
    let big : q ≤ acc * acc = not_below (acc * acc) q h.0 in
    let square : q ≤ y = rw (ey, sym same) big in
    exceeds q z times (omega (arith, ez, grows y a (ay square)))
digit_cases q a x y z acc sq times false false true spilled two ey ez ax ay f h k =
    let same : acc ≡ x = f.1 (turn (ltb x q) f.0) in
    let big : q ≤ acc * acc = not_below (acc * acc) q h.0 in
    exceeds q y sq (rw (ey, sym same) big)
digit_cases q a x y z acc sq times true false false spilled two ey ez ax ay f h k =
    let same : acc ≡ x = f.1 (turn (ltb x q) f.0) in
    let square : sq ≡ y = h.1 (turn (ltb (acc * acc) q) h.0) ∙ ap (λ (n : ℕ). n * n) same ∙ sym ey in
    let whole : sq * a ≡ z = ap (λ (n : ℕ). n * a) square ∙ sym ez in
    subst (λ (n : ℕ). Fit q n times spilled) whole k
digit_cases q a x y z acc sq times false false false spilled two ey ez ax ay f h k =
    let same : acc ≡ x = f.1 (turn (ltb x q) f.0) in
    let square : acc * acc ≡ y = ap (λ (n : ℕ). n * n) same ∙ sym ey in
    subst (λ (n : ℕ). Fit q n sq false) square h

zero_power : (e : ℕ) → 0 ^ e ≤ 1
zero_power zero = omega arith
zero_power (suc e) = let p : 0 ^ suc e ≡ 0 * 0 ^ e = pow-succ' 0 e in omega arith

base_some : (q a e : ℕ) → 2 ≤ q → q ≤ a ^ e → 1 ≤ a
base_some q zero e two h = let z = zero_power e in absurd (omega arith)
base_some q (suc a) e two h = omega arith

one_more : (n : ℕ) → 1 + n ≡ suc n
one_more n = omega arith

none_more : (n : ℕ) → 0 + n ≡ n
none_more n = omega arith

next_power : (a e : ℕ) (d : Bool) → a ^ (bit_value d + (e + e)) ≡ cond d (a ^ (e + e) * a) (a ^ (e + e))
next_power a e true = ap (λ (n : ℕ). a ^ n) (one_more (e + e)) ∙ pow-succ' a (e + e) ∙ omega arith
next_power a e false = ap (λ (n : ℕ). a ^ n) (none_more (e + e))

two_at_least : (n : ℕ) → 0 < n → 2 ≤ 2 ^ n
two_at_least zero h = absurd (omega arith)
two_at_least (suc n) h = let p = power_positive n in rw (power_double n) (omega arith)

-- a digit more of the exponent
pub power_more : (n a e acc sq times : ℕ) (d over left spilled : Bool) → 0 < n → IsUnsigned n (a ^ e) acc over → IsUnsigned n (acc * acc) sq left → IsUnsigned n (sq * a) times spilled
    → IsUnsigned n (a ^ (bit_value d + (e + e))) (cond d times sq) (over || (left || (d && spilled)))
power_more n a e acc sq times d over left spilled some f h k =
    let two = two_at_least n some in
    of_fit n (2 ^ n) (a ^ (bit_value d + (e + e))) (cond d times sq) (over || (left || (d && spilled))) refl
    (subst (λ (m : ℕ). Fit (2 ^ n) m (cond d times sq) (over || (left || (d && spilled)))) (sym (next_power a e d))
    (digit_cases (2 ^ n) a (a ^ e) (a ^ (e + e)) (a ^ (e + e) * a) acc sq times d over left spilled two (pow-add a e e) refl (base_some (2 ^ n) a e two) (base_some (2 ^ n) a (e + e) two)
    (to_fit n (a ^ e) acc over f) (to_fit n (acc * acc) sq left h) (to_fit n (sq * a) times spilled k)))

pub no_exponent : (n a e s : ℕ) (over : Bool) → 0 < n → e ≡ 0 → s ≡ 1 → over ≡ false → IsUnsigned n (a ^ e) s over
no_exponent n a e s over some z one o =
    let two = two_at_least n some in
    let number : a ^ e ≡ 1 = ap (λ (k : ℕ). a ^ k) z ∙ pow-zero a in
    let small : ltb 1 (2 ^ n) ≡ true = grind (arith, nat_tests) in
    record { leaves = rw (number, o, small) refl; reads = λ k. rw (number, one) refl }

-- whether a number is odd
abbrev pub odd : ℕ → Bool
odd zero = false
odd (suc n) = not (odd n)

not_not : (b : Bool) → not (not b) ≡ b
not_not true = refl
not_not false = refl

odd_double : (b : Bool) (n : ℕ) → odd (bit_value b + (n + n)) ≡ b
odd_double true zero = refl
odd_double false zero = refl
odd_double b (suc n) =
    let rest : odd (bit_value b + (n + n)) ≡ b = odd_double b n in
    let two : bit_value b + (suc n + suc n) ≡ suc (suc (bit_value b + (n + n))) = omega arith in
    ap odd two ∙ not_not (odd (bit_value b + (n + n))) ∙ rest

times_signed : (z : ℤ) (t : Bool) (m : ℕ) → z *ℤ signed t m ≡ signed (differ (is_negative z) t) (unsigned_abs z * m)
times_signed (pos a) true zero = let e : a * 0 ≡ 0 = omega arith in rw e refl
times_signed (pos a) true (suc m) = refl
times_signed (pos a) false m = refl
times_signed (negsuc a) true zero = let e : suc a * 0 ≡ 0 = omega arith in rw e refl
times_signed (negsuc a) true (suc m) = refl
times_signed (negsuc a) false m = refl

sign_more : (s o : Bool) → differ s (s && o) ≡ (s && not o)
sign_more true true = refl
sign_more true false = refl
sign_more false o = refl

and_no : (s : Bool) → (s && false) ≡ false
and_no true = refl
and_no false = refl

-- a power by its sign and its magnitude
power_by : (z : ℤ) (n : ℕ) → int_power z n ≡ signed (is_negative z && odd n) (unsigned_abs z ^ n)
power_by z zero = sym (ap (λ (s : Bool). signed s (unsigned_abs z ^ 0)) (and_no (is_negative z)) ∙ ap (signed false) (pow-zero (unsigned_abs z)))
power_by z (suc n) =
    ap (λ (y : ℤ). z *ℤ y) (power_by z n) ∙ times_signed z (is_negative z && odd n) (unsigned_abs z ^ n)
    ∙ ap (λ (s : Bool). signed s (unsigned_abs z * unsigned_abs z ^ n)) (sign_more (is_negative z) (odd n))
    ∙ ap (λ (m : ℕ). signed (is_negative z && not (odd n)) m) (sym (pow-succ' (unsigned_abs z) n))

pub power_is : (z : ℤ) (b : Bool) (bs : List Bool) → int_power z (nat_of (b ∷ bs)) ≡ signed (is_negative z && b) (unsigned_abs z ^ nat_of (b ∷ bs))
power_is z b bs = power_by z (nat_of (b ∷ bs)) ∙ ap (λ (o : Bool). signed (is_negative z && o) (unsigned_abs z ^ nat_of (b ∷ bs))) (odd_double b (nat_of bs))

exponent_cases : (p low : ℕ) (t : Bool) (z : ℤ) (n : ℕ) → low < p → z +ℤ pos (p * bit_value t) ≡ pos low → n ≡ low + p * bit_value t → cond (not (is_negative z)) n 0 ≡ exponent_of z
exponent_cases p low true (pos m) n h e f = absurd (omega (arith, ints))
exponent_cases p low true (negsuc m) n h e f = refl
exponent_cases p low false (pos m) n h e f = omega (arith, ints)
exponent_cases p low false (negsuc m) n h e f = refl

pub exponent_is : (bs : List Bool) → 0 < length bs → cond (not (is_negative (int_of bs))) (nat_of bs) 0 ≡ exponent_of (int_of bs)
exponent_is bs some = let r = parts bs (length bs - 1) (omega arith) in exponent_cases (2 ^ (length bs - 1)) r.low r.top (int_of bs) (nat_of bs) r.below r.signed r.unsigned

-- where the exponent is below zero the power is 1, which fits
pub power_over : (w : ℕ) (z b : ℤ) (o : Bool) → 1 < w → o ≡ not (fits w (int_power z (exponent_of b))) → o ≡ (not (is_negative b) && not (fits w (int_power z (exponent_of b))))
power_over w z (pos n) o h e = e
power_over w z (negsuc n) o h e =
    let two = two_at_least (w - 1) (omega arith) in
    let small : ltb 1 (2 ^ (w - 1)) ≡ true = grind (arith, nat_tests) in
    e ∙ ap not small
