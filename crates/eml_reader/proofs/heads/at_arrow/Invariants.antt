use Rattle.std.proofs.Common.{◌≡◌, take, drop}
use Rattle.eml_reader.specs.RuleReading.{at_arrow}
use Rattle.eml_reader.proofs.Arrows.{before_all}
use Rattle.eml_reader.proofs.heads.at_arrow.Given as goal

-- no arrow so far
abbrev pub invariant-loop-i : goal.invariant-loop-i
invariant-loop-i l =
    at_arrow l.tokens ≡ before_all (take l.i l.tokens) (at_arrow (drop l.i l.tokens))
