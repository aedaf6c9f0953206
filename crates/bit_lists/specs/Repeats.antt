-- The places of a list that is repeated.
use Rattle.std.specs.Prelude.{ℕ, ◌%◌, nat_lt, if◌then◌else◌}

-- the place of the item that stands at a place of a repeated list of a length, where only lengths
-- below a bound are repeated
abbrev pub wrapped_place : ℕ → ℕ → ℕ → ℕ
wrapped_place bound n k = if nat_lt n bound then k % n else k
