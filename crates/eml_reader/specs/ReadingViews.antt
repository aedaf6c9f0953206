-- What the code has read of some lines, as mathematics.
use Rattle.std.specs.Prelude.{◌≡◌, ℕ, List, map, Option, Some, None, option_map, Result, Err}
use Rattle.mpy_lexer.specs.declared.line.Line.{Line}
use Rattle.choice_tree.specs.Templates.{Correction}
use Rattle.choice_tree.specs.RuleViews.{correction_of}
use Rattle.eml_reader.specs.declared.reading.Reading.{Reading}
use Rattle.eml_reader.specs.declared.rule_error.RuleError.{RuleError}
use Rattle.eml_reader.specs.declared.rule_error.RuleError.TheVariants as rule_error
use Rattle.mpy_tree.specs.declared.refusal.Cause.TheVariants as cause
use Rattle.eml_reader.specs.RuleReading.{behind, rules_behind, rules_of}

-- the rules of all lines, where these are left
abbrev pub with_rest : Reading → List Line → Result (List Correction) ℕ
with_rest r ls =
    behind (map correction_of r.rules.items) (rules_behind (option_map correction_of r.open) ls)

-- the rules of all lines, where a line was taken if it spells something
abbrev pub after : Line → Option Reading → List Line → Result (List Correction) ℕ
after l None ls = Err l.line
after l (Some r) ls = with_rest r ls

-- the first line that spells nothing there; want of memory may be answered for any lines
abbrev pub IsMisspelled : List Line → RuleError → Type 0
IsMisspelled ls (rule_error.Fault c line) = (c ≡ cause.Syntax) × (rules_of ls ≡ Err line)
IsMisspelled ls rule_error.NoMemory = Unit {0}
