-- Worked words and numbers, each closed by computing it.
use Rattle.std.proofs.Common.{◌≡◌, [], ◌∷◌, refl, pos, negsuc, true, false}
use Rattle.bit_words.specs.Words.{nat_of, int_of, fits}
use Rattle.bit_words.specs.Operations.{floor_quotient, floor_remainder, int_power}

-- 1011 is 11 without a sign, and -5 in two's complement
eleven : nat_of (true ∷ true ∷ false ∷ true ∷ []) ≡ 11
eleven = refl

minus_five : int_of (true ∷ true ∷ false ∷ true ∷ []) ≡ negsuc 4
minus_five = refl

five : int_of (true ∷ false ∷ true ∷ false ∷ []) ≡ pos 5
five = refl

-- four bits hold -8 to 7
lowest : fits 4 (negsuc 7) ≡ true
lowest = refl

too_low : fits 4 (negsuc 8) ≡ false
too_low = refl

highest : fits 4 (pos 7) ≡ true
highest = refl

too_high : fits 4 (pos 8) ≡ false
too_high = refl

-- -7 // 2 is -4 and leaves 1; 7 // -2 is -4 and leaves -1; -7 // -2 is 3 and leaves -1; -8 // 2 is -4 and leaves 0
quotient_below : floor_quotient (negsuc 6) (pos 2) ≡ negsuc 3
quotient_below = refl

remainder_below : floor_remainder (negsuc 6) (pos 2) ≡ pos 1
remainder_below = refl

quotient_by_below : floor_quotient (pos 7) (negsuc 1) ≡ negsuc 3
quotient_by_below = refl

remainder_by_below : floor_remainder (pos 7) (negsuc 1) ≡ negsuc 0
remainder_by_below = refl

quotient_of_both_below : floor_quotient (negsuc 6) (negsuc 1) ≡ pos 3
quotient_of_both_below = refl

remainder_of_both_below : floor_remainder (negsuc 6) (negsuc 1) ≡ negsuc 0
remainder_of_both_below = refl

quotient_without_rest : floor_quotient (negsuc 7) (pos 2) ≡ negsuc 3
quotient_without_rest = refl

remainder_without_rest : floor_remainder (negsuc 7) (pos 2) ≡ pos 0
remainder_without_rest = refl

-- 0 ** 0 is 1, and (-2) ** 3 is -8
nothing_raised : int_power (pos 0) 0 ≡ pos 1
nothing_raised = refl

cube : int_power (negsuc 1) 3 ≡ negsuc 7
cube = refl
