use Rattle.std.proofs.Common.{◌≡◌, ◌++◌, take}
use Rattle.sym_values.specs.Forms.{joined}
use Rattle.sym_values.proofs.printed.push_words.Given as goal

abbrev pub invariant-loop-i : goal.invariant-loop-i
invariant-loop-i g l = l.out ≡ l.fn.out ++ joined (take l.i l.words)
