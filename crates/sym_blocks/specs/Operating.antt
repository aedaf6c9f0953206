-- What an operation gives on what its operands give, each of which may halt before it.
use Rattle.std.specs.Prelude.{ℕ}
use Rattle.std.specs.declared.result.Result.{Result}
use Rattle.mpy_tree.specs.declared.outcome.Halt.{Halt}
use Rattle.mpy_tree.specs.declared.outcome.Halted.{Halted}
use Rattle.mpy_tree.specs.declared.value.Value.{Value}
use Rattle.mpy_tree.specs.Operations.{index, put}
use Rattle.mpy_tree.specs.Values.{◌>>=◌, on_line}

abbrev pub on_both : ℕ → (Value → Value → Result Value Halt) → Result Value Halted
    → Result Value Halted → Result Value Halted
on_both line op x y = x >>= λ v. y >>= λ w. on_line line (op v w)

-- the third is looked at first
abbrev pub on_three : ℕ → (Value → Value → Value → Result Value Halt) → Result Value Halted
    → Result Value Halted → Result Value Halted → Result Value Halted
on_three line op x y z = z >>= λ w. x >>= λ v. y >>= λ k. on_line line (op v k w)

-- an operator on the number at an index of a list, which is put there
abbrev pub on_element : ℕ → (Value → Value → Result Value Halt) → Result Value Halted
    → Result Value Halted → Result Value Halted → Result Value Halted
on_element line op x y z =
    x >>= λ v. y >>= λ k. on_line line (index v k) >>= λ old. z >>= λ w.
    on_line line (op old w) >>= λ new. on_line line (put v k new)
