-- The numbers that the lowest digits of a number spell.
use Rattle.std.proofs.Common.{◌≡◌, ℕ, zero, suc, ◌-◌, ◌<◌, ◌≤◌, ◌/◌, ◌%◌, ◌^◌, ◌==◌, true, false, not, [], ◌∷◌, ◌++◌, map, length, refl, sym, ap, ◌∙◌, arith}
use Rattle.std.specs.Prelude.{ℤ, pos, negsuc, ◌+ℤ◌}
use Rattle.std.specs.Int.{bit_at, bit_not, cast_unsigned, w32}
use Rattle.std.proofs.Math.Pow.{pow_mono}
use Rattle.std.proofs.lemmas.Bool.{ltb-true}
use Rattle.std.proofs.lemmas.Int.{ints}
use Rattle.std.proofs.lemmas.List.{map_push}
use Rattle.std.proofs.lemmas.Nat.Bits.{bit_at-lt, bit_at-suc, bit_at_above, bit_at_lowest, bit_at_not}
use Rattle.mpy_tree.specs.Operations.{fits_width}
use Rattle.bit_words.specs.Words.{bit_value, int_of, nat_of}
use Rattle.bit_words.proofs.Integers.{int_not}
use Rattle.bit_words.proofs.Naturals.{power_double}
use Rattle.bit_words.proofs.Signs.{unsigned_int}
use Rattle.bit_lanes.specs.Digits.{digits_of}
use Rattle.bit_lanes.specs.Lane.{lane_bit}
use Rattle.bit_lanes.proofs.DigitLists.{value_of_digit}

-- one digit more
pub digits_more : (k n : ℕ) → digits_of (suc k) n ≡ digits_of k n ++ lane_bit n k ∷ []
digits_more zero n = refl
digits_more (suc k) n =
    let rest : digits_of (suc k) (n / 2) ≡ digits_of k (n / 2) ++ lane_bit (n / 2) k ∷ [] = digits_more k (n / 2) in
    let next : lane_bit (n / 2) k ≡ lane_bit n (suc k) = ap (λ d. d == 1) (sym (bit_at-suc n k)) in
    ap (λ w. lane_bit n 0 ∷ w) (rest ∙ ap (λ d. digits_of k (n / 2) ++ d ∷ []) next)

pub digits_long : (count n : ℕ) → length (digits_of count n) ≡ count
digits_long zero n = refl
digits_long (suc k) n = ap suc (digits_long k (n / 2))

-- a number of so many digits is what they spell
pub nat_digits : (count n : ℕ) → n < 2 ^ count → nat_of (digits_of count n) ≡ n
nat_digits zero n h = omega arith
nat_digits (suc k) n h =
    let double = power_double k in
    let rest : nat_of (digits_of k (n / 2)) ≡ n / 2 = nat_digits k (n / 2) (omega arith) in
    let low : bit_at n 0 ≡ bit_value (lane_bit n 0) = value_of_digit (bit_at n 0) (bit_at-lt n 0) in
    let digit : bit_at n 0 ≡ n % 2 = bit_at_lowest n in
    omega (arith, rest, low, digit)

-- a digit of the complement
turned : (x : ℕ) → x < 2 → (1 - x == 1) ≡ not (x == 1)
turned x h = grind arith

not_digit : (n i : ℕ) → n < 2 ^ 32 → i < 32 → lane_bit (bit_not w32 n) i ≡ not (lane_bit n i)
not_digit n i h k = ap (λ d. d == 1) (bit_at_not w32 n i h k) ∙ turned (bit_at n i) (bit_at-lt n i)

not_digits : (count n : ℕ) → n < 2 ^ 32 → count ≤ 32 → digits_of count (bit_not w32 n) ≡ map not (digits_of count n)
not_digits zero n h k = refl
not_digits (suc i) n h k =
    digits_more i (bit_not w32 n)
    ∙ ap (λ w. w ++ lane_bit (bit_not w32 n) i ∷ []) (not_digits i n h (omega arith))
    ∙ ap (λ d. map not (digits_of i n) ++ d ∷ []) (not_digit n i h (omega arith))
    ∙ sym (map_push not (digits_of i n) (lane_bit n i)) ∙ ap (map not) (sym (digits_more i n))

-- a number below the highest digit
below_top : (k n : ℕ) → n < 2 ^ k → int_of (digits_of (suc k) n) ≡ pos n
below_top k n h =
    let none : lane_bit n k ≡ false = ap (λ d. d == 1) (bit_at_above n k k h (omega arith)) in
    ap int_of (digits_more k n ∙ ap (λ d. digits_of k n ++ d ∷ []) none)
    ∙ unsigned_int (digits_of k n) ∙ ap pos (nat_digits k n h)

-- a number that fits the width is what its lowest digits in two's complement spell
int_suc : (k : ℕ) (z : ℤ) → suc k ≤ 32 → fits_width (suc k) z ≡ true → int_of (digits_of (suc k) (cast_unsigned w32 z)) ≡ z
int_suc k (pos n) h e =
    let same : suc k - 1 ≡ k = omega arith in
    let small : n < 2 ^ k = rw same at (ltb-true n (2 ^ (suc k - 1)) e) in
    below_top k n small
int_suc k (negsuc n) h e =
    let same : suc k - 1 ≡ k = omega arith in
    let small : n < 2 ^ k = rw same at (ltb-true n (2 ^ (suc k - 1)) e) in
    let most : 2 ^ k ≤ 2 ^ 32 = pow_mono {j = 32} (omega arith) in
    let is : cast_unsigned w32 (negsuc n) ≡ bit_not w32 n = omega arith in
    let digits = not_digits (suc k) n (omega arith) h in
    let plain = below_top k n small in
    let some : 0 < length (digits_of (suc k) n) = omega (arith, digits_long (suc k) n) in
    let sum = int_not (digits_of (suc k) n) some in
    let whole : int_of (digits_of (suc k) (bit_not w32 n)) ≡ int_of (map not (digits_of (suc k) n)) = ap int_of digits in
    ap (λ m. int_of (digits_of (suc k) m)) is ∙ whole ∙ last (int_of (map not (digits_of (suc k) n))) (int_of (digits_of (suc k) n)) plain sum
  where
    last : (y x : ℤ) → x ≡ pos n → y +ℤ x ≡ negsuc 0 → y ≡ negsuc n
    last y x e f = omega (arith, ints)

pub int_digits : (width : ℕ) (z : ℤ) → 0 < width → width ≤ 32 → fits_width width z ≡ true → int_of (digits_of width (cast_unsigned w32 z)) ≡ z
int_digits zero z some few e = absurd (omega arith)
int_digits (suc k) z some few e = int_suc k z few e
