-- Numbers in wider words, and the place that an index says.
use Rattle.std.proofs.Common.{◌≡◌, ℕ, suc, ◌+◌, ◌-◌, ◌*◌, ◌^◌, ◌<◌, ◌≤◌, Bool, true, false, List, map, length, refl, sym, ap, ◌∙◌, arith, cond, subst, replicate}
use Rattle.std.specs.Prelude.{ℤ, pos, negsuc, ◌+ℤ◌}
use Rattle.std.proofs.lemmas.Int.{ints}
use Rattle.std.proofs.lemmas.Bool.Decides.{nat_tests}
use Rattle.bit_words.specs.Words.{fits, int_of, is_negative, is_within}
use Rattle.bit_words.proofs.Naturals.{power_double}
use Rattle.bit_words.proofs.Signs.{power_positive}
use Rattle.bit_words.proofs.Integers.{int_zeros, within}
use Rattle.bit_words.proofs.Decided.{read_fits}
use Rattle.bit_lists.specs.Places.{from_front}

power_six : (k : ℕ) → 2 ^ (k + 6) ≡ 64 * 2 ^ k
power_six k =
    let e : k + 6 ≡ suc (suc (suc (suc (suc (suc k))))) = omega arith in
    let a = power_double k in
    let b = power_double (suc k) in
    let d = power_double (suc (suc k)) in
    let f = power_double (suc (suc (suc k))) in
    let h = power_double (suc (suc (suc (suc k)))) in
    let i = power_double (suc (suc (suc (suc (suc k))))) in
    ap (λ (n : ℕ). 2 ^ n) e ∙ omega arith

pub more_within : (p q : ℕ) (z : ℤ) → p ≤ q → is_within p z ≡ true → is_within q z ≡ true
more_within p q (pos m) h e = grind (arith, nat_tests)
more_within p q (negsuc m) h e = grind (arith, nat_tests)

wide_power : (n : ℕ) → 0 < n → 2 ^ (n + 6 - 1) ≡ 64 * 2 ^ (n - 1)
wide_power n h = let e : n + 6 - 1 ≡ n - 1 + 6 = omega arith in ap (λ (k : ℕ). 2 ^ k) e ∙ power_six (n - 1)

-- a word's number fits 6 bits more
pub fits_wide : {B : Type 0} (f : B → Bool) (w : List B) (n : ℕ) → n ≡ length w → 0 < n → fits (n + 6) (int_of (map f w)) ≡ true
fits_wide f w n e h =
    let p : ℕ = 2 ^ (n - 1) in
    let least = more_within (2 ^ (n - 1)) (64 * 2 ^ (n - 1)) (int_of (map f w)) (omega arith) (read_fits f w n (sym e) h) in
    subst (λ (q : ℕ). is_within q (int_of (map f w)) ≡ true) (sym (wide_power n h)) least

-- a number of 5 bits fits 6 bits and more
pub length_fits : (n k : ℕ) → n < 32 → 6 ≤ k → fits k (pos n) ≡ true
length_fits n k h l =
    let place : k - 1 ≡ suc (suc (suc (suc (suc (k - 6))))) = omega arith in
    let one = power_positive (k - 6) in
    let a = power_double (k - 6) in
    let b = power_double (suc (k - 6)) in
    let d = power_double (suc (suc (k - 6))) in
    let e = power_double (suc (suc (suc (k - 6)))) in
    let f = power_double (suc (suc (suc (suc (k - 6))))) in
    let power : 2 ^ (k - 1) ≡ 2 ^ (suc (suc (suc (suc (suc (k - 6)))))) = ap (λ (n : ℕ). 2 ^ n) place in
    let least : n < 2 ^ (k - 1) = omega arith in
    grind (arith, nat_tests)

pub added_is : (z : ℤ) (n : ℕ) → z +ℤ cond (is_negative z) (pos n) (pos 0) ≡ from_front z n
added_is (pos i) n = omega (arith, ints)
added_is (negsuc i) n = refl

place_within : (p : ℕ) (z : ℤ) (n : ℕ) → 0 < p → is_within p z ≡ true → n < 32 → is_within (64 * p) (from_front z n) ≡ true
place_within p (pos i) n h e l = more_within p (64 * p) (pos i) (omega arith) e
place_within p (negsuc i) n h e l =
    let small : i < p = grind (arith, nat_tests) in
    within (64 * p) (negsuc i +ℤ pos n) (64 * p + n - suc i) (omega (arith, ints)) (omega arith)

-- the place fits 6 bits more than the index
pub place_fits : {B : Type 0} (f : B → Bool) (w : List B) (n len : ℕ) → n ≡ length w → 0 < n → len < 32 → fits (n + 6) (from_front (int_of (map f w)) len) ≡ true
place_fits f w n len e h l =
    let wide = place_within (2 ^ (n - 1)) (int_of (map f w)) len (power_positive (n - 1)) (read_fits f w n (sym e) h) l in
    subst (λ (q : ℕ). is_within q (from_front (int_of (map f w)) len) ≡ true) (sym (wide_power n h)) wide

pub added_as : (t t' : Bool) (x y r : List Bool) (n width : ℕ) → r ≡ cond t x y → t ≡ t' → int_of x ≡ pos n → y ≡ replicate width false → int_of r ≡ cond t' (pos n) (pos 0)
added_as true t' x y r n width e f h k = ap int_of e ∙ h ∙ ap (λ b. cond b (pos n) (pos 0)) f
added_as false t' x y r n width e f h k = ap int_of (e ∙ k) ∙ int_zeros width ∙ ap (λ b. cond b (pos n) (pos 0)) f

pub holds_as : (r z z' : ℤ) (k k' : ℕ) → (fits k z ≡ true → r ≡ z) → z ≡ z' → k ≡ k' → fits k' z' ≡ true → r ≡ z'
holds_as r z z' k k' h e f l = h (ap (λ (n : ℕ). fits n z) f ∙ ap (fits k') e ∙ l) ∙ e
