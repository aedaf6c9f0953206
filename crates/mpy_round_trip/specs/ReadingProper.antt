-- What a text spells is proper.
use Rattle.std.specs.Prelude.{ℕ, List}
use Rattle.mpy_tree.specs.Syntax.{Routine}
use Rattle.mpy_parser.specs.Programs.{Reads}
use Rattle.mpy_round_trip.specs.Proper.{IsProper}

-- every program that a text spells is proper
abbrev pub ReadsProper : Type 0
ReadsProper = (bytes : List ℕ) (rs : List Routine) → Reads bytes rs → IsProper rs
