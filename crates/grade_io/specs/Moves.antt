-- Bytes that a reader gives and a writer takes, where those are known.
use Rattle.std.specs.Prelude.{◌≡◌, ℕ, List, Option, length, take}
use Rattle.std.specs.Io.KnownBytes.{Appends, Consumes}

-- so many bytes were given
abbrev pub TakesSo : Option (List ℕ) → Option (List ℕ) → ℕ → Type 0
TakesSo old new n = (bytes : List ℕ) × Consumes old new bytes × (length bytes ≡ n)

-- a front of the bytes was taken
abbrev pub AppendsFront : Option (List ℕ) → Option (List ℕ) → List ℕ → Type 0
AppendsFront old new bytes = (n : ℕ) × Appends old new (take n bytes)
