-- The words of literals and of steps. The words of a line have one space between each two; numbers
-- are decimal without a leading zero.
use Rattle.std.specs.Prelude.{ℕ, List, ◌∷◌, ◌++◌, map, codes, if◌then◌else◌}
use Rattle.std.specs.Fmt.{decimal}
use Rattle.clause_base.specs.declared.lit.Lit.{Lit}
use Rattle.clause_base.specs.declared.log.Step.{Step}
use Rattle.step_lines.specs.Lines.{spaced}

abbrev pub literal_text : Lit → List ℕ
literal_text l = if l.positive then decimal l.var else 45 ∷ decimal l.var

-- 0 ends a list of numbers
abbrev pub list_end : List ℕ
list_end = codes " 0"

abbrev pub literals_text : List Lit → List ℕ
literals_text lits = spaced (map literal_text lits)

abbrev pub step_line : Step → List ℕ
step_line s =
    codes "l" ++ (literals_text s.clause.lits ++ (list_end ++ (spaced (map decimal s.hints)
    ++ list_end)))
