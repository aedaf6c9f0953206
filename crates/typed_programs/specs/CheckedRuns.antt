-- A run whose calls check their arguments.
use Rattle.std.specs.Prelude.{ℕ, zero, suc, ◌-◌, List, None, if◌then◌else◌}
use Rattle.std.specs.declared.result.Result.{Result}
use Rattle.std.specs.declared.result.Result.TheVariants.{Err}
use Rattle.mpy_tree.specs.declared.limits.Limits.{Limits}
use Rattle.mpy_tree.specs.declared.value.Value.{Value}
use Rattle.mpy_tree.specs.declared.outcome.Halted.{Halted}
use Rattle.mpy_tree.specs.Syntax.{Routine}
use Rattle.mpy_tree.specs.Values.{stuck}
use Rattle.mpy_tree.specs.Expressions.{Calls}
use Rattle.mpy_tree.specs.Running.{Done, given_by, done_by, found, enter, no_calls, kept_first}
use Rattle.mpy_tree.specs.SetTypes.{called}
use Rattle.mpy_tree.specs.Rules.{Slots}
use Rattle.typed_programs.specs.Keeping.{takes_call}

module _ (l : Limits) (S : Slots) (p : List Routine) where
  -- calls that are stuck where the arguments aren't for the parameters
  abbrev pub checked : {A : Type 0} → (List ℕ → List Value → ℕ → Result A Halted)
      → List ℕ → List Value → ℕ → Result A Halted
  checked calls f vs line =
      if takes_call S l (called p f) vs then calls f vs line else Err (stuck line)

  -- checked calls that may go so many levels deeper
  abbrev pub checked_below : ℕ → Calls
  checked_below zero = checked no_calls
  checked_below (suc d) =
      checked (λ f vs line. enter given_by None l (checked_below d) (found p f) vs line)

  -- how the program ends on these arguments where each call, that of the entry too, is checked
  abbrev pub checked_run : List ℕ → List Value → Result Done Halted
  checked_run entry vs =
      checked
      (λ f us line.
      enter done_by (kept_first l) l (checked_below (l.depth - 1)) (found p f) us line)
      entry vs 1
