use Rattle.std.proofs.Common.{◌≡◌, take}
use Rattle.formula_commands.specs.Texts.{value_literals}
use Rattle.formula_commands.proofs.writing.true_literals.Given as goal

-- the literals of the values so far
abbrev pub invariant-loop-i : goal.invariant-loop-i
invariant-loop-i l = l.lits.items ≡ value_literals 1 (take l.i l.values)
