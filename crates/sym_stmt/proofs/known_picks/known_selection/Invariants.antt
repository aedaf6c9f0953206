use Rattle.sym_stmt.proofs.KnownPicks.{ReadSoFar}
use Rattle.sym_stmt.proofs.known_picks.known_selection.Given as goal

abbrev pub invariant-loop-i : goal.invariant-loop-i
invariant-loop-i g l = ReadSoFar (g.L.Logic.reads l.g) l.picks l.i l.choices.items
