-- A proper program is read from its printed text, lines aside.
use Rattle.std.specs.Prelude.{◌≡◌, List, map}
use Rattle.mpy_tree.specs.Equality.{without_lines}
use Rattle.mpy_tree.specs.Printing.{program_text}
use Rattle.mpy_tree.specs.Syntax.{Routine}
use Rattle.mpy_parser.specs.Programs.{Reads}
use Rattle.mpy_round_trip.specs.Proper.{IsProper}

-- programs that differ in their lines at most
abbrev pub AreSame : List Routine → List Routine → Type 0
AreSame rs qs = map without_lines rs ≡ map without_lines qs

-- the printed text of a proper program spells it
abbrev pub SpelledByItsText : Type 0
SpelledByItsText =
    (rs : List Routine) → IsProper rs → (qs : List Routine)
    × (Reads (program_text rs) qs × AreSame qs rs)

-- and no other
abbrev pub SpelledByNoOther : Type 0
SpelledByNoOther = (rs qs : List Routine) → IsProper rs → Reads (program_text rs) qs → AreSame qs rs
