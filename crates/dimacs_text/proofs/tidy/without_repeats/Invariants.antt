use Rattle.std.proofs.Common.{take}
use Rattle.dimacs_text.proofs.Tidying.{Kept}
use Rattle.dimacs_text.proofs.tidy.without_repeats.Given as goal

abbrev pub invariant-loop-lit : goal.invariant-loop-lit
invariant-loop-lit l = Kept (take l.lit-index l.lits) l.kept.lits
