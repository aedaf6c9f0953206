use Rattle.std.proofs.Common.{◌≡◌, drop}
use Rattle.eml_reader.specs.RuleReading.{rules_of}
use Rattle.eml_reader.specs.ReadingViews.{with_rest}
use Rattle.eml_reader.proofs.reading.rules_of.Given as goal

-- the rules of all lines are those so far and those of the lines that are left
abbrev pub invariant-loop-line : goal.invariant-loop-line
invariant-loop-line l = rules_of l.lines ≡ with_rest l.read (drop l.line-index l.lines)
