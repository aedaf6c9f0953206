-- Tables as numbers whose binary digits are those of the lanes.
use Rattle.std.proofs.Common.{◌≡◌, ℕ, zero, suc, ◌+◌, ◌*◌, ◌<◌, ◌/◌, ◌%◌, ◌^◌, ◌==◌, Bool, true, false, List, [], ◌∷◌, Some, map, take, refl, sym, ap, ◌∙◌, ◌≤◌, arith, slice_get, get_or, length}
use Rattle.std.specs.Prelude.{bit_and}
use Rattle.std.specs.Int.{bit_at}
use Rattle.std.proofs.Math.Pow.{pow_mono}
use Rattle.std.proofs.lemmas.Option.{slice_get-get_or}
use Rattle.std.proofs.lemmas.Nat.Bits.{bit_at-lt, bit_at-suc, bit_at_lowest, shr_and_one}
use Rattle.bit_words.specs.Words.{bit_value, nat_of}
use Rattle.bit_words.proofs.Integers.{nat_taken_below}
use Rattle.bit_words.proofs.Naturals.{nat_more}
use Rattle.bit_lanes.specs.Lane.{lane_bit}

low_digit : (b : Bool) (m : ℕ) → ((bit_value b + (m + m)) % 2 == 1) ≡ b
low_digit true m = grind arith
low_digit false m = grind arith

half : (b : Bool) (m : ℕ) → (bit_value b + (m + m)) / 2 ≡ m
half true m = omega arith
half false m = omega arith

pub digit_at : (bs : List Bool) (i : ℕ) (b : Bool) → slice_get bs i ≡ Some b → lane_bit (nat_of bs) i ≡ b
digit_at [] i b e = cc
digit_at (x ∷ bs) zero b e =
    let same : x ≡ b = cc in
    ap (λ n. n == 1) (bit_at_lowest (nat_of (x ∷ bs))) ∙ low_digit x (nat_of bs) ∙ same
digit_at (x ∷ bs) (suc i) b e =
    ap (λ n. n == 1) (bit_at-suc (nat_of (x ∷ bs)) i)
    ∙ ap (λ n. lane_bit n i) (half x (nat_of bs)) ∙ digit_at bs i b e

pub value_of_digit : (x : ℕ) → x < 2 → x ≡ bit_value (x == 1)
value_of_digit zero h = refl
value_of_digit (suc zero) h = refl
value_of_digit (suc (suc x)) h = absurd (omega arith)

-- a digit that is moved to the place of a lane
pub placed : (x lane : ℕ) → x < 2 → lane < 64 → x * 2 ^ lane % 18446744073709551616 ≡ 2 ^ lane * bit_value (x == 1)
placed zero lane h k = grind arith
placed (suc zero) lane h k = let most : 2 ^ lane ≤ 2 ^ 63 = pow_mono {j = 63} (omega arith) in omega arith
placed (suc (suc x)) lane h k = absurd (omega arith)

-- the table of one lane more
module _ (column : List ℕ) (digit lane : ℕ) where
  abbrev pub added : ℕ
  added = bit_and (get_or column lane 0 / 2 ^ digit) 1 * 2 ^ lane % 18446744073709551616

  pub table_more : lane < length column → length column ≤ 64
      → nat_of (map (λ n. lane_bit n digit) (take lane column)) + added ≡ nat_of (map (λ n. lane_bit n digit) (take (lane + 1) column))
  table_more h k =
      let n = get_or column lane 0 in
      let one = nat_more (λ m. lane_bit m digit) column lane n (slice_get-get_or column lane 0 h) in
      let is : bit_and (n / 2 ^ digit) 1 ≡ bit_at n digit = shr_and_one n digit in
      let moved : bit_at n digit * 2 ^ lane % 18446744073709551616 ≡ 2 ^ lane * bit_value (bit_at n digit == 1) = placed (bit_at n digit) lane (bit_at-lt n digit) (omega arith) in
      ap (λ x. nat_of (map (λ m. lane_bit m digit) (take lane column)) + x * 2 ^ lane % 18446744073709551616) is
      ∙ ap (λ x. nat_of (map (λ m. lane_bit m digit) (take lane column)) + x) moved ∙ sym one

  pub table_fits : lane < length column → length column ≤ 64
      → nat_of (map (λ n. lane_bit n digit) (take lane column)) + added < 18446744073709551616
  table_fits h k =
      let below = nat_taken_below (λ m. lane_bit m digit) column (lane + 1) (omega arith) in
      let most : 2 ^ (lane + 1) ≤ 2 ^ 64 = pow_mono {j = 64} (omega arith) in
      let is = table_more h k in
      omega (arith, below, most, is)

-- in the table of a column stand the digits of its numbers
pub table_bit : (column : List ℕ) (digit lane number : ℕ) → slice_get column lane ≡ Some number
    → lane_bit (nat_of (map (λ n. lane_bit n digit) column)) lane ≡ lane_bit number digit
table_bit column digit lane number e =
    digit_at (map (λ n. lane_bit n digit) column) lane (lane_bit number digit) (mapped column lane e)
  where
    mapped : (w : List ℕ) (i : ℕ) → slice_get w i ≡ Some number → slice_get (map (λ n. lane_bit n digit) w) i ≡ Some (lane_bit number digit)
    mapped [] i e = absurd cc
    mapped (x ∷ w) zero e = let same : x ≡ number = cc in ap (λ (n : ℕ). Some (lane_bit n digit)) same
    mapped (x ∷ w) (suc i) e = mapped w i e
