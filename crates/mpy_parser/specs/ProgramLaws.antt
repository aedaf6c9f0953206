-- What a text spells, and whether it is refused, are one thing.
use Rattle.std.specs.Prelude.{◌≡◌, ◌⊎◌, ℕ, List}
use Rattle.mpy_tree.specs.declared.refusal.Cause.{Cause}
use Rattle.mpy_tree.specs.declared.refusal.Cause.TheVariants as cause
use Rattle.mpy_tree.specs.Syntax.{Routine}
use Rattle.mpy_parser.specs.Programs.{Reads, IsProgram, IsRefused}

-- a text spells one program at most
abbrev pub OneProgram : Type 0
OneProgram = (bytes : List ℕ) (rs qs : List Routine) → Reads bytes rs → Reads bytes qs → rs ≡ qs

-- a text spells a program within the limits, or is refused for a cause at a line
abbrev pub IsJudged : List ℕ → Type 0
IsJudged bytes =
    ((rs : List Routine) × IsProgram bytes rs) ⊎ ((c : Cause) × (line : ℕ) × IsRefused bytes c line)

-- each text is one or the other
abbrev pub ReadOrRefused : Type 0
ReadOrRefused = (bytes : List ℕ) → IsJudged bytes

-- a text that spells a program within the limits isn't refused
abbrev pub NotReadAndRefused : Type 0
NotReadAndRefused =
    (bytes : List ℕ) (rs : List Routine) (c : Cause) (line : ℕ) → IsProgram bytes rs
    → IsRefused bytes c line → ⊥

-- a text that spells a program is refused for a limit alone
abbrev pub RefusedForALimit : Type 0
RefusedForALimit =
    (bytes : List ℕ) (rs : List Routine) (c : Cause) (line : ℕ) → Reads bytes rs
    → IsRefused bytes c line → c ≡ cause.Limit

-- a text is refused for one cause, at one line
abbrev pub OneRefusal : Type 0
OneRefusal =
    (bytes : List ℕ) (c d : Cause) (m n : ℕ) → IsRefused bytes c m → IsRefused bytes d n
    → (c ≡ d) × (m ≡ n)
