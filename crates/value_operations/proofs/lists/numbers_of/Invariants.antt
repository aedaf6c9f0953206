use Rattle.std.proofs.Common.{◌≡◌, ◌++◌, Ok, drop}
use Rattle.mpy_tree.specs.Values.{◌>>=◌}
use Rattle.mpy_tree.specs.Expressions.{wholes}
use Rattle.value_operations.proofs.lists.numbers_of.Given as goal

-- the numbers so far, and then those of the values that are left, are the numbers of all
abbrev pub invariant-loop-v : goal.invariant-loop-v
invariant-loop-v l = wholes l.values ≡ (wholes (drop l.v-index l.values) >>= λ zs. Ok (l.numbers.items ++ zs))
