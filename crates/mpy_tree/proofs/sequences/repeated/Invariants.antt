use Rattle.std.proofs.Common.{◌≡◌}
use Rattle.mpy_tree.specs.Operations.{copies}
use Rattle.mpy_tree.proofs.sequences.repeated.Given as goal

abbrev pub invariant-loop-turn : goal.invariant-loop-turn
invariant-loop-turn g l = l.items.items ≡ copies l._turn l.xs
