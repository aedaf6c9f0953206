-- The message of a rule: its text with the holes filled.
use Rattle.std.specs.Prelude.{◌≡◌, ◌≢◌, ◌↔◌, ℕ, zero, suc, ◌-◌, length, find, nat_eq, codes}
use Rattle.std.specs.Prelude.{List, [], ◌∷◌, ◌++◌, Option, None, Some}
use Rattle.std.specs.List.{starts_with}
use Rattle.feedback_text.specs.declared.holes.Hole.{Hole}
use Rattle.feedback_text.specs.declared.holes.Hole.TheVariants as hole

abbrev pub hole_text : Hole → List ℕ
hole_text hole.Line = codes "{line}"
hole_text hole.Old = codes "{old}"
hole_text hole.New = codes "{new}"
hole_text hole.Cost = codes "{cost}"

abbrev pub BeginsNoHole : List ℕ → Type 0
BeginsNoHole text = (h : Hole) (rest : List ℕ) → text ≢ hole_text h ++ rest

-- The message of a text, by what is put into each hole. The text is read once, from left to right:
-- a hole gives what is put into it, and any other byte stays. What is put in isn't read.
pub data Fills (value : Hole → List ℕ) : List ℕ → List ℕ → Type 0 where
  at_end : Fills value [] []
  at_hole : {text rest message : List ℕ} (h : Hole)
      → text ≡ hole_text h ++ rest
      → Fills value rest message
      → Fills value text (value h ++ message)
  at_byte : {c : ℕ} {rest message : List ℕ}
      → BeginsNoHole (c ∷ rest)
      → Fills value rest message
      → Fills value (c ∷ rest) (c ∷ message)

-- THE SAME AS A FUNCTION

abbrev pub holes : List Hole
holes = hole.Line ∷ hole.Old ∷ hole.New ∷ hole.Cost ∷ []

-- the hole with which a text begins
abbrev pub hole_at : List ℕ → Option Hole
hole_at text = find (λ h. starts_with nat_eq text (hole_text h)) holes

-- what a place gives, by its byte and the hole that begins there
abbrev pub given : (Hole → List ℕ) → ℕ → Option Hole → List ℕ
given value c None = c ∷ []
given value c (Some h) = value h

-- how many bytes of the hole are behind its first
abbrev pub bytes_behind : Option Hole → ℕ
bytes_behind None = 0
bytes_behind (Some h) = length (hole_text h) - 1

-- the message of a text whose first bytes, so many, are of a hole that was filled before
abbrev pub filled_behind : (Hole → List ℕ) → ℕ → List ℕ → List ℕ
filled_behind value n [] = []
filled_behind value zero (c ∷ cs) =
    given value c (hole_at (c ∷ cs))
    ++ filled_behind value (bytes_behind (hole_at (c ∷ cs))) cs
filled_behind value (suc n) (c ∷ cs) = filled_behind value n cs

abbrev pub filled : (Hole → List ℕ) → List ℕ → List ℕ
filled value text = filled_behind value 0 text

-- a text has one message, and the function gives it
abbrev pub FillsAlone : (Hole → List ℕ) → List ℕ → Type 0
FillsAlone value text =
    (message : List ℕ) → Fills value text message ↔ (message ≡ filled value text)
