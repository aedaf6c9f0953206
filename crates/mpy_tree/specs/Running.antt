-- What a program gives.
use Rattle.std.specs.Prelude.{ℕ, zero, suc, ◌-◌, ◌==◌, List, [], ◌∷◌, length, Option, Some, None}
use Rattle.std.specs.Prelude.{if◌then◌else◌}
use Rattle.std.specs.declared.result.Result.{Result}
use Rattle.std.specs.declared.result.Result.TheVariants.{Ok, Err}
use Rattle.mpy_tree.specs.declared.limits.Limits.{Limits}
use Rattle.mpy_tree.specs.declared.value.Value.{Value}
use Rattle.mpy_tree.specs.Syntax.{Routine}
use Rattle.mpy_tree.specs.declared.outcome.FaultKind.TheVariants.{Depth, NoValue}
use Rattle.mpy_tree.specs.declared.outcome.Halted.{Halted}
use Rattle.mpy_tree.specs.Values.{fault, stuck, same_bytes, Locals, nothing_set}
use Rattle.mpy_tree.specs.Values.{with_local}
use Rattle.mpy_tree.specs.Expressions.{Calls}
use Rattle.mpy_tree.specs.Statements.{Ran, Next, Broke, Continued, Returned, Failed, run_block}

-- the locals of which the parameters have the arguments
abbrev pub bound : List (List ℕ) → List Value → Locals
bound [] vs = nothing_set
bound (x ∷ xs) [] = nothing_set
bound (x ∷ xs) (v ∷ vs) = with_local (bound xs vs) x v

-- what a called function gives whose body ran so; `line` is that of its `def`
abbrev pub given_by : ℕ → Ran → Result Value Halted
given_by line (Next s) = Err (fault NoValue line)
given_by line (Broke s) = Err (fault NoValue line)
given_by line (Continued s) = Err (fault NoValue line)
given_by line (Returned None s) = Err (fault NoValue line)
given_by line (Returned (Some v) s) = Ok v
given_by line (Failed h) = Err h

-- how a run ends without a fault: the value, if there is one, and the printed values that were kept
pub record Done : Type 0 where
  pub value : Option Value
  pub printed : List Value

-- a run needs no value where printed values are kept
abbrev pub done_with : ℕ → Option (List Value) → Option Value → Result Done Halted
done_with line None None = Err (fault NoValue line)
done_with line None (Some v) = Ok (record { value = Some v; printed = [] })
done_with line (Some vs) v = Ok (record { value = v; printed = vs })

-- how a run ends of which the entry's body ran so
abbrev pub done_by : ℕ → Ran → Result Done Halted
done_by line (Next s) = done_with line s.printed None
done_by line (Broke s) = done_with line s.printed None
done_by line (Continued s) = done_with line s.printed None
done_by line (Returned v s) = done_with line s.printed v
done_by line (Failed h) = Err h

abbrev pub found : List Routine → List ℕ → Option Routine
found [] f = None
found (r ∷ rs) f = if same_bytes f r.name then Some r else found rs f

-- A body that is run on arguments: what is kept at first of printed values, and what the body's
-- end gives.
module _ {A : Type 0} (ends : ℕ → Ran → Result A Halted) (kept : Option (List Value)) where
  -- what a function gives on its arguments, where its calls give what `calls` says
  abbrev pub entered : Limits → Calls → Routine → List Value → Result A Halted
  entered l calls r vs =
      ends r.line
      (run_block l calls r.body (record { locals = bound r.params vs; printed = kept }))

  -- a call on a line, which is stuck where no function has the name or takes so many arguments
  abbrev pub enter : Limits → Calls → Option Routine → List Value → ℕ → Result A Halted
  enter l calls None vs line = Err (stuck line)
  enter l calls (Some r) vs line =
      if length vs == length r.params then entered l calls r vs else Err (stuck line)

abbrev pub no_calls : Calls
no_calls f vs line = Err (fault Depth line)

-- calls that may go so many levels deeper; what they print is dropped
abbrev pub calls_below : Limits → List Routine → ℕ → Calls
calls_below l p zero = no_calls
calls_below l p (suc d) =
    λ f vs line. enter given_by None l (calls_below l p d) (found p f) vs line

-- what is kept when a run begins
abbrev pub kept_first : Limits → Option (List Value)
kept_first l = if l.prints == 0 then None else Some []

-- how the program ends on these arguments; the entry is at depth 1
abbrev pub evaluated : Limits → List Routine → List ℕ → List Value → Result Done Halted
evaluated l p entry vs =
    enter done_by (kept_first l) l (calls_below l p (l.depth - 1)) (found p entry) vs 1
