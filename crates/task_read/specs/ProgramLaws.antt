-- What typed program a text spells, and whether it is refused, are one thing.
use Rattle.std.specs.Prelude.{◌≡◌, ◌⊎◌, ℕ, List}
use Rattle.mpy_tree.specs.declared.refusal.Cause.{Cause}
use Rattle.mpy_tree.specs.declared.typing.Fact.{Fact}
use Rattle.mpy_tree.specs.Syntax.{Routine}
use Rattle.mpy_tree.specs.Entries.{Entry}
use Rattle.task_read.specs.TypedPrograms.{IsTypedProgram, IsProgramRefused}

-- a text spells one typed program at most
abbrev pub OneTypedProgram : Type 0
OneTypedProgram =
    (bytes : List ℕ) (e : Entry) (p q : List Routine) (T U : List Fact)
    → IsTypedProgram bytes e p T → IsTypedProgram bytes e q U → (p ≡ q) × (T ≡ U)

-- a text spells a typed program, or is refused for a cause at a line
abbrev pub IsJudged : List ℕ → Entry → Type 0
IsJudged bytes e =
    ((p : List Routine) × (T : List Fact) × IsTypedProgram bytes e p T)
    ⊎ ((c : Cause) × (line : ℕ) × IsProgramRefused bytes e c line)

-- each text is one or the other
abbrev pub ReadOrRefused : Type 0
ReadOrRefused = (bytes : List ℕ) (e : Entry) → IsJudged bytes e

-- a text that spells a typed program isn't refused
abbrev pub NotTypedAndRefused : Type 0
NotTypedAndRefused =
    (bytes : List ℕ) (e : Entry) (p : List Routine) (T : List Fact) (c : Cause) (line : ℕ)
    → IsTypedProgram bytes e p T → IsProgramRefused bytes e c line → ⊥

-- a text is refused for one cause, at one line
abbrev pub OneProgramRefusal : Type 0
OneProgramRefusal =
    (bytes : List ℕ) (e : Entry) (c d : Cause) (m n : ℕ)
    → IsProgramRefused bytes e c m → IsProgramRefused bytes e d n → (c ≡ d) × (m ≡ n)
