use Rattle.std.proofs.Common.{◌≡◌, ◌++◌, drop, length}
use Rattle.sym_paths.proofs.printed.printed_on.Given as goal

abbrev pub invariant-loop-i : goal.invariant-loop-i
invariant-loop-i g l =
    l.printed ++ drop l.i l.path.values ≡ drop (length l.slots.types) l.path.values
