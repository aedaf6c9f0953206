-- Lanes and the truth values under which they are read.
use Rattle.std.proofs.Common.{◌≡◌, ℕ, zero, suc, ◌+◌, ◌*◌, ◌<◌, ◌/◌, ◌%◌, ◌^◌, ◌==◌, Bool, true, false, List, [], ◌∷◌, arith, if◌then◌else◌}
use Rattle.std.proofs.lemmas.Nat.{pow_pos}
use Rattle.bit_lanes.specs.Lane.{lane_of, truths_of_lane}
use Rattle.bit_lanes.specs.LaneLaws.{LanesAreFew, LanesAreNumbers}

lane_small : (n : ℕ) (vs : List Bool) → lane_of n vs < 2 ^ n
lane_small zero vs = omega arith
lane_small (suc n) [] = pow_pos (suc n)
lane_small (suc n) (true ∷ vs) = let h = lane_small n vs in let e : 2 ^ suc n ≡ 2 * 2 ^ n = grind arith in omega (arith, h, e)
lane_small (suc n) (false ∷ vs) = let h = lane_small n vs in let e : 2 ^ suc n ≡ 2 * 2 ^ n = grind arith in omega (arith, h, e)

pub lanes_few : LanesAreFew
lanes_few vs = lane_small 6 vs

-- a digit as a number
digit_is : (x : ℕ) → x < 2 → (if x == 1 then 1 else 0) ≡ x
digit_is x h = grind arith

module _ (i : ℕ) (h : i < 64) where
  digits_sum : (if i / 1 % 2 == 1 then 1 else 0) + 2 * ((if i / 2 % 2 == 1 then 1 else 0) + 2 * ((if i / 4 % 2 == 1 then 1 else 0) + 2 * ((if i / 8 % 2 == 1 then 1 else 0) + 2 * ((if i / 16 % 2 == 1 then 1 else 0) + 2 * ((if i / 32 % 2 == 1 then 1 else 0) + 2 * 0))))) ≡ i
  digits_sum =
      let a = digit_is (i / 1 % 2) (omega arith) in
      let b = digit_is (i / 2 % 2) (omega arith) in
      let c = digit_is (i / 4 % 2) (omega arith) in
      let d = digit_is (i / 8 % 2) (omega arith) in
      let e = digit_is (i / 16 % 2) (omega arith) in
      let f = digit_is (i / 32 % 2) (omega arith) in
      omega (arith, a, b, c, d, e, f)

pub lanes_numbered : LanesAreNumbers
unfolding truths_of_lane
lanes_numbered i h = digits_sum i h
