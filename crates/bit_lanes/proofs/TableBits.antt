-- What operations on words of 64 bits do to each lane.
use Rattle.std.proofs.Common.{◌≡◌, ℕ, ◌+◌, ◌-◌, ◌<◌, ◌^◌, ◌==◌, ◌%◌, Bool, true, false, not, ◌&&◌, List, if◌then◌else◌, min, max, refl, ap, ◌∙◌, arith}
use Rattle.std.specs.Prelude.{bit_and, bit_or, bit_xor}
use Rattle.std.specs.Int.{bit_at, bit_not, w64}
use Rattle.std.proofs.lemmas.Nat.{and_le_r, or_lt, xor_lt}
use Rattle.std.proofs.lemmas.Nat.Bits.{bit_at-lt, bit_at-zero, bit_at_and, bit_at_not, bit_at_ones, bit_at_or, bit_at_xor}
use Rattle.bit_words.specs.Bits.{differ}
use Rattle.bit_lanes.specs.Lane.{lane_of, reads_table}
use Rattle.bit_lanes.proofs.LaneNumbers.{lanes_few}

pub lane_low : (vs : List Bool) → lane_of 6 vs < 64
lane_low vs = lanes_few vs

-- a digit and its test
module _ (x y : ℕ) (h : x < 2) (g : y < 2) where
  digit_and : (min x y == 1) ≡ ((x == 1) && (y == 1))
  digit_and = grind arith

  digit_xor : ((x + y) % 2 == 1) ≡ differ (x == 1) (y == 1)
  digit_xor = grind arith

  digit_or : (max x y == 1) ≡ (if x == 1 then true else (y == 1))
  digit_or = grind arith

digit_not : (x : ℕ) → x < 2 → (1 - x == 1) ≡ not (x == 1)
digit_not x h = grind arith

pub reads_and : (vs : List Bool) (a b : ℕ) → reads_table vs (bit_and a b) ≡ (reads_table vs a && reads_table vs b)
reads_and vs a b = let i = lane_of 6 vs in
    ap (λ n. n == 1) (bit_at_and a b i) ∙ digit_and (bit_at a i) (bit_at b i) (bit_at-lt a i) (bit_at-lt b i)

pub reads_xor : (vs : List Bool) (a b : ℕ) → reads_table vs (bit_xor a b) ≡ differ (reads_table vs a) (reads_table vs b)
reads_xor vs a b = let i = lane_of 6 vs in
    ap (λ n. n == 1) (bit_at_xor a b i) ∙ digit_xor (bit_at a i) (bit_at b i) (bit_at-lt a i) (bit_at-lt b i)

pub reads_or : (vs : List Bool) (a b : ℕ) → reads_table vs (bit_or a b) ≡ (if reads_table vs a then true else reads_table vs b)
reads_or vs a b = let i = lane_of 6 vs in
    ap (λ n. n == 1) (bit_at_or a b i) ∙ digit_or (bit_at a i) (bit_at b i) (bit_at-lt a i) (bit_at-lt b i)

pub reads_not : (vs : List Bool) (a : ℕ) → a < 2 ^ 64 → reads_table vs (bit_not w64 a) ≡ not (reads_table vs a)
reads_not vs a h = let i = lane_of 6 vs in
    ap (λ n. n == 1) (bit_at_not w64 a i h (lane_low vs)) ∙ digit_not (bit_at a i) (bit_at-lt a i)

pub reads_zero : (vs : List Bool) → reads_table vs 0 ≡ false
reads_zero vs = ap (λ n. n == 1) (bit_at-zero (lane_of 6 vs))

pub reads_ones : (vs : List Bool) → reads_table vs (2 ^ 64 - 1) ≡ true
reads_ones vs = ap (λ n. n == 1) (bit_at_ones 64 (lane_of 6 vs) (lane_low vs))

pub chosen : (vs : List Bool) (c one other : ℕ) → c < 2 ^ 64 → reads_table vs (bit_or (bit_and c one) (bit_and (bit_not w64 c) other)) ≡ (if reads_table vs c then reads_table vs one else reads_table vs other)
chosen vs c one other h =
    reads_or vs (bit_and c one) (bit_and (bit_not w64 c) other)
    ∙ ap (λ b. if b then true else reads_table vs (bit_and (bit_not w64 c) other)) (reads_and vs c one)
    ∙ ap (λ b. if (reads_table vs c && reads_table vs one) then true else b) (reads_and vs (bit_not w64 c) other)
    ∙ ap (λ b. if (reads_table vs c && reads_table vs one) then true else (b && reads_table vs other)) (reads_not vs c h)
    ∙ by_test (reads_table vs c) (reads_table vs one) (reads_table vs other)
  where
    by_test : (t y n : Bool) → (if t && y then true else (not t && n)) ≡ (if t then y else n)
    by_test true true n = refl
    by_test true false n = refl
    by_test false y n = refl

pub choice_small : (c one other : ℕ) → one < 2 ^ 64 → other < 2 ^ 64 → bit_or (bit_and c one) (bit_and (bit_not w64 c) other) < 2 ^ 64
choice_small c one other h g =
    let a = and_le_r c one in
    let b = and_le_r (bit_not w64 c) other in
    or_lt 64 (bit_and c one) (bit_and (bit_not w64 c) other) (omega (arith, a, h)) (omega (arith, b, g))

pub xor_small : (a b : ℕ) → a < 2 ^ 64 → b < 2 ^ 64 → bit_xor a b < 2 ^ 64
xor_small a b h g = xor_lt 64 a b h g
