-- The characters of a text.
use Rattle.std.specs.Prelude.{◌≤◌, ℕ, List, All}

-- each is a byte from 32 to 126
abbrev pub ArePrintable : List ℕ → Type 0
ArePrintable cs = All (λ c. (32 ≤ c) × (c ≤ 126)) cs
