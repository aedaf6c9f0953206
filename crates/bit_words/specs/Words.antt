-- What a list of bits reads as, and which numbers a width holds.
use Rattle.std.specs.Prelude.{ℕ, ◌+◌, ◌-◌, ◌^◌, nat_lt, Bool, true, false, not, List, [], ◌∷◌, map}
use Rattle.std.specs.Prelude.{ℤ, pos, negsuc, ◌+ℤ◌, neg_ℤ, ◌≡◌}

-- the value of a bit
abbrev pub bit_value : Bool → ℕ
bit_value true = 1
bit_value false = 0

-- a number without a sign, the lowest bit first
abbrev pub nat_of : List Bool → ℕ
nat_of [] = 0
nat_of (b ∷ bs) = bit_value b + (nat_of bs + nat_of bs)

-- two's complement, the lowest bit first; the last bit counts below zero
abbrev pub int_of : List Bool → ℤ
int_of [] = pos 0
int_of (true ∷ []) = negsuc 0
int_of (false ∷ []) = pos 0
int_of (b ∷ c ∷ bs) = pos (bit_value b) +ℤ (int_of (c ∷ bs) +ℤ int_of (c ∷ bs))

-- what the bits of a word read as in a state, under values of its variables
abbrev pub nat_read : {S B : Type 0} → (S → List Bool → B → Bool) → S → List Bool → List B → ℕ
nat_read reads state values word = nat_of (map (reads state values) word)

abbrev pub int_read : {S B : Type 0} → (S → List Bool → B → Bool) → S → List Bool → List B → ℤ
int_read reads state values word = int_of (map (reads state values) word)

-- whether a number is at least -p and below p
abbrev pub is_within : ℕ → ℤ → Bool
is_within p (pos m) = nat_lt m p
is_within p (negsuc m) = nat_lt m p

-- whether so many bits hold a number in two's complement
abbrev pub fits : ℕ → ℤ → Bool
fits width z = is_within (2 ^ (width - 1)) z

-- a number that is read is another one, where that fits the width
abbrev pub Holds : ℤ → ℕ → ℤ → Type 0
Holds read width z = fits width z ≡ true → read ≡ z

-- a bit says whether a number leaves a width
abbrev pub OverflowsAs : Bool → ℕ → ℤ → Type 0
OverflowsAs over width z = over ≡ not (fits width z)

abbrev pub is_negative : ℤ → Bool
is_negative (pos m) = false
is_negative (negsuc m) = true

-- a number without a sign is read, and a bit says whether it leaves a width
pub record IsUnsigned (width number read : ℕ) (over : Bool) : Type 0 where
  pub leaves : over ≡ not (nat_lt number (2 ^ width))
  pub reads : nat_lt number (2 ^ width) ≡ true → read ≡ number

-- a number by its sign and its magnitude
abbrev pub signed : Bool → ℕ → ℤ
signed true n = neg_ℤ (pos n)
signed false n = pos n
