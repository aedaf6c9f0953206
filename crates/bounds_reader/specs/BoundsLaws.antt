-- What a text spells, and whether it is refused, are one thing.
use Rattle.std.specs.Prelude.{◌≡◌, ◌⊎◌, ℕ, List}
use Rattle.mpy_tree.specs.declared.refusal.Cause.{Cause}
use Rattle.bounds_reader.specs.declared.bounds.Bounds.{Bounds}
use Rattle.bounds_reader.specs.Files.{IsBounds, IsRefused}

-- a text spells one bounds at most
abbrev pub OneBounds : Type 0
OneBounds = (bytes : List ℕ) (a b : Bounds) → IsBounds bytes a → IsBounds bytes b → a ≡ b

-- a text spells bounds, or is refused for a cause at a line
abbrev pub IsJudged : List ℕ → Type 0
IsJudged bytes =
    ((b : Bounds) × IsBounds bytes b) ⊎ ((c : Cause) × (line : ℕ) × IsRefused bytes c line)

-- each text is one or the other
abbrev pub ReadOrRefused : Type 0
ReadOrRefused = (bytes : List ℕ) → IsJudged bytes

-- a text that spells bounds isn't refused
abbrev pub NotReadAndRefused : Type 0
NotReadAndRefused =
    (bytes : List ℕ) (b : Bounds) (c : Cause) (line : ℕ) → IsBounds bytes b
    → IsRefused bytes c line → ⊥

-- a text is refused for one cause, at one line
abbrev pub OneRefusal : Type 0
OneRefusal =
    (bytes : List ℕ) (c d : Cause) (m n : ℕ) → IsRefused bytes c m → IsRefused bytes d n
    → (c ≡ d) × (m ≡ n)
