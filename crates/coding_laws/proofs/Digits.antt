-- The digits of numbers, with a sign and without one.
use Rattle.std.proofs.Common.{◌≡◌, ℕ, zero, suc, ◌+◌, ◌-◌, ◌*◌, ◌/◌, ◌%◌, ◌^◌, ◌<◌, ◌≤◌}
use Rattle.std.proofs.Common.{◌==◌, Bool, true, false}
use Rattle.std.proofs.Common.{List, [], ◌∷◌, ◌++◌, length, refl, ap, ◌∙◌, arith, length-append}
use Rattle.std.specs.Prelude.{ℤ, pos, negsuc, ◌+ℤ◌}
use Rattle.std.proofs.lemmas.Bool.{ltb-true}
use Rattle.std.proofs.lemmas.Int.{ints}
use Rattle.mpy_tree.specs.Operations.{fits_width}
use Rattle.bit_words.specs.Words.{bit_value, nat_of, int_of}
use Rattle.bit_words.proofs.Naturals.{power_double}
use Rattle.bit_words.proofs.Integers.{int_signed}

-- so many digits of a number, the lowest first
abbrev pub digits : ℕ → ℕ → List Bool
digits zero k = []
digits (suc n) k = (k % 2 == 1) ∷ digits n (k / 2)

pub length-digits : (n k : ℕ) → length (digits n k) ≡ n
length-digits zero k = refl
length-digits (suc n) k = ap suc (length-digits n (k / 2))

low_digit : (k r : ℕ) → r ≡ k % 2 → bit_value (r == 1) + (k / 2 + k / 2) ≡ k
low_digit k zero e = omega arith
low_digit k (suc zero) e = omega arith
low_digit k (suc (suc r)) e = absurd (omega arith)

pub nat_digits : (n k : ℕ) → k < 2 ^ n → nat_of (digits n k) ≡ k
nat_digits zero k h = omega arith
nat_digits (suc n) k h =
    let double : 2 ^ suc n ≡ 2 ^ n + 2 ^ n = power_double n in
    let half : k / 2 < 2 ^ n = omega arith in
    let rest : nat_of (digits n (k / 2)) ≡ k / 2 = nat_digits n (k / 2) half in
    ap (λ r. bit_value (k % 2 == 1) + (r + r)) rest ∙ low_digit k (k % 2) refl

-- the bits of a number: its digits, or those of what it lacks, and then its sign
abbrev with_sign : ℕ → ℤ → List Bool
with_sign n (pos m) = digits n m ++ false ∷ []
with_sign n (negsuc m) = digits n (2 ^ n - 1 - m) ++ true ∷ []

length-with_sign : (n : ℕ) (z : ℤ) → length (with_sign n z) ≡ n + 1
length-with_sign n (pos m) =
    length-append (digits n m) (false ∷ []) ∙ ap (λ k. k + 1) (length-digits n m)
length-with_sign n (negsuc m) =
    length-append (digits n (2 ^ n - 1 - m)) (true ∷ [])
    ∙ ap (λ k. k + 1) (length-digits n (2 ^ n - 1 - m))

-- the word of a number
abbrev pub word_of : ℕ → ℤ → List Bool
word_of width z = with_sign (width - 1) z

pub length-word_of : (width : ℕ) (z : ℤ) → 1 ≤ width → length (word_of width z) ≡ width
length-word_of width z h =
    let e : width - 1 + 1 ≡ width = omega arith in length-with_sign (width - 1) z ∙ e

signed_by : (p m n : ℕ) (y : ℤ) → m < p → n ≡ p - 1 - m → y +ℤ pos (p * 1) ≡ pos n → y ≡ negsuc m
signed_by p m n y h e f = omega (arith, ints)

pub int_of_word : (width : ℕ) (z : ℤ) → fits_width width z ≡ true → int_of (word_of width z) ≡ z
int_of_word width (pos m) h =
    let n : ℕ = width - 1 in
    let small : m < 2 ^ n = ltb-true m (2 ^ n) h in
    let read : nat_of (digits n m) ≡ m = nat_digits n m small in
    let whole : int_of (digits n m ++ false ∷ []) +ℤ pos (2 ^ length (digits n m) * 0)
    ≡ pos (nat_of (digits n m)) =
    int_signed (digits n m) false in
    omega (arith, ints)
int_of_word width (negsuc m) h =
    let n : ℕ = width - 1 in
    let small : m < 2 ^ n = ltb-true m (2 ^ n) h in
    let k : ℕ = 2 ^ n - 1 - m in
    let low : k < 2 ^ n = omega arith in
    let read : nat_of (digits n k) ≡ k = nat_digits n k low in
    let many : 2 ^ length (digits n k) ≡ 2 ^ n = ap (λ j. 2 ^ j) (length-digits n k) in
    signed_by (2 ^ n) m (nat_of (digits n k)) _ small read
    (rw many at (int_signed (digits n k) true))
