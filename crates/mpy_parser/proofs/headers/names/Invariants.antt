use Rattle.std.proofs.Common.{◌≡◌, ◌++◌, length, Some}
use Rattle.mpy_tree.specs.Options.{◌>>=◌}
use Rattle.mpy_parser.specs.ItemReading.{names_at}
use Rattle.mpy_parser.proofs.headers.names.Given as goal

-- the names so far, and then those of the rest
abbrev pub invariant-loop-rest : goal.invariant-loop-rest
invariant-loop-rest l = names_at l.ts ≡ (names_at l.rest >>= λ xs. Some (l.found.items ++ xs.0, xs.1))

abbrev pub decreases-loop-rest : goal.decreases-loop-rest
decreases-loop-rest l = length l.rest
