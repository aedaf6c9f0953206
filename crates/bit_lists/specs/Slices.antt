-- The ends of a slice.
use Rattle.std.specs.Prelude.{ℕ, min, ℤ, pos, negsuc, Bool, List, Option, Some, None}
use denote.Ref.{Bor}
use Rattle.bit_words.specs.Words.{int_read}
use Rattle.bit_lists.specs.Places.{from_front}

-- what an end reads as, if there is one
abbrev pub end_read : {S B : Type 0} → (S → List Bool → B → Bool) → S → List Bool
    → Option (Bor (List B)) → Option ℤ
end_read reads state values None = None
end_read reads state values (Some word) = Some (int_read reads state values word.now)

-- a number from 0 to a limit
abbrev pub clamp : ℤ → ℕ → ℕ
clamp (pos i) limit = min i limit
clamp (negsuc i) limit = 0

-- the place of the low end, which may lie past the list, up to 31
abbrev pub low_end : Option ℤ → ℕ → ℕ
low_end None n = 0
low_end (Some z) n = clamp (from_front z n) 31
