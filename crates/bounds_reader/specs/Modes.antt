-- The bytes of a line one after another, each with what it belongs to.
use Rattle.std.specs.Prelude.{ℕ, Bool, true, false, not, ◌&&◌, ◌||◌, ◌==◌, List, [], ◌∷◌}
use Rattle.std.specs.Prelude.{if◌then◌else◌}
use Rattle.mpy_lexer.specs.Bytes.{is_quote}
use Rattle.mpy_lexer.specs.PhysicalLines.{is_allowed}
use Rattle.bounds_reader.specs.declared.foreign.Mode.{Mode}
use Rattle.bounds_reader.specs.declared.foreign.Mode.TheVariants.{Plain, Text, Comment}

-- whether the byte may stand before the rest
abbrev pub allows : Mode → ℕ → List ℕ → Bool
allows Plain c rest = is_allowed true c rest
allows (Text q taken) c rest = is_allowed false c rest
allows Comment c rest = true

-- the mode behind the byte
abbrev pub mode_behind : Mode → ℕ → Mode
mode_behind Plain c = if is_quote c then Text c false else if c == 35 then Comment else Plain
mode_behind (Text q taken) c = if not taken && c == q then Plain else Text q (not taken && c == 92)
mode_behind Comment c = Comment

-- whether a byte may not stand where it does
unfoldable pub has_fault_from : Mode → List ℕ → Bool
has_fault_from m [] = false
has_fault_from m (c ∷ rest) = not (allows m c rest) || has_fault_from (mode_behind m c) rest
