-- Truth tables over six variables, as words of 64 bits: the bit at a lane's number is the reading
-- under the truth values that are its binary digits.
use Rattle.std.specs.Prelude.{ℕ, suc, zero, ◌+◌, ◌*◌, ◌^◌, ◌<◌, ◌==◌, Bool, List, [], ◌∷◌}
use Rattle.std.specs.Prelude.{if◌then◌else◌}
use Rattle.std.specs.Int.{bit_at}

-- The number whose binary digits are the first so many truth values, the first of them lowest. A
-- value past the end of the list is false.
abbrev pub lane_of : ℕ → List Bool → ℕ
lane_of zero vs = 0
lane_of (suc n) [] = 0
lane_of (suc n) (v ∷ vs) = (if v then 1 else 0) + 2 * lane_of n vs

-- a binary digit of a number, as a truth value; of a table what it says of a lane
abbrev pub lane_bit : ℕ → ℕ → Bool
lane_bit table lane = bit_at table lane == 1

-- the truth values under which a lane is read: its six digits, the lowest first
unfoldable pub truths_of_lane : ℕ → List Bool
truths_of_lane lane =
    lane_bit lane 0 ∷ lane_bit lane 1 ∷ lane_bit lane 2 ∷ lane_bit lane 3 ∷ lane_bit lane 4
    ∷ lane_bit lane 5 ∷ []

-- what a table reads as under truth values of the variables
abbrev pub reads_table : List Bool → ℕ → Bool
reads_table vs table = lane_bit table (lane_of 6 vs)

-- a table of 64 lanes
abbrev pub IsTable : ℕ → Type 0
IsTable table = table < 2 ^ 64
