-- Operations on whole numbers of unlimited size.
use Rattle.std.specs.Prelude.{Bool, true, false, ℕ, zero, suc, ◌≡◌, ◌<◌, ◌+◌, ◌*◌, ◌/◌, ℤ, pos}
use Rattle.std.specs.Prelude.{negsuc, ◌-ℤ◌, ◌*ℤ◌, neg_ℤ}

-- a number divided by a positive one, rounded towards minus infinity; by none it is 0 or -1
abbrev pub floor_by : ℤ → ℕ → ℤ
floor_by (pos m) n = pos (m / n)
floor_by (negsuc m) n = negsuc (m / n)

-- the quotient of two numbers, rounded towards minus infinity
abbrev pub floor_quotient : ℤ → ℤ → ℤ
floor_quotient a (pos n) = floor_by a n
floor_quotient a (negsuc n) = floor_by (neg_ℤ a) (suc n)

-- what is left of a number when a multiple of the other is taken away
abbrev pub floor_remainder : ℤ → ℤ → ℤ
floor_remainder a b = a -ℤ b *ℤ floor_quotient a b

-- a number multiplied with itself so many times
abbrev pub int_power : ℤ → ℕ → ℤ
int_power z zero = pos 1
int_power z (suc n) = z *ℤ int_power z n

-- a quotient and a rest of two numbers without a sign
pub record IsDivided (a b quotient rest : ℕ) : Type 0 where
  pub whole : a ≡ b * quotient + rest
  pub below : rest < b

-- the size of a number or, below zero, of its complement
abbrev pub folded : ℤ → ℕ
folded (pos m) = m
folded (negsuc m) = m

-- a number by its sign and that size
abbrev pub unfolded : Bool → ℕ → ℤ
unfolded false m = pos m
unfolded true m = negsuc m

-- a dividend by a positive divisor: both change their signs where the divisor is below zero
abbrev pub by_positive : ℤ → ℤ → ℤ
by_positive a (pos n) = a
by_positive a (negsuc n) = neg_ℤ a

-- an exponent, which below zero counts as 0
abbrev pub exponent_of : ℤ → ℕ
exponent_of (pos n) = n
exponent_of (negsuc n) = 0
