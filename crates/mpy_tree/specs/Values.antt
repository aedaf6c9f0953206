-- Values, faults and states.
use Rattle.std.specs.Prelude.{ℕ, Bool, List, Option, Some, None, if◌then◌else◌, nat_eq}
use Rattle.std.specs.Cmp.Lexicographic.{pointwise}
use Rattle.std.specs.declared.result.Result.{Result}
use Rattle.std.specs.declared.result.Result.TheVariants.{Ok, Err}
use Rattle.mpy_tree.specs.declared.value.Value.{Value}
use Rattle.mpy_tree.specs.declared.outcome.FaultKind.{FaultKind}
use Rattle.mpy_tree.specs.declared.outcome.FaultKind.TheVariants.{Unset}
use Rattle.mpy_tree.specs.declared.outcome.Halt.{Halt}
use Rattle.mpy_tree.specs.declared.outcome.Halt.TheVariants.{Fault, Stuck}
use Rattle.mpy_tree.specs.declared.outcome.Halted.{Halted}

-- goes on with a value, or ends without one
infixl 10 ◌>>=◌
abbrev pub ◌>>=◌ : {A B E : Type 0} → Result A E → (A → Result B E) → Result B E
Ok a >>= f = f a
Err e >>= f = Err e

abbrev pub halted : Halt → ℕ → Halted
halted why line = record { halt = why; line = line }

-- a fault on a line
abbrev pub fault : FaultKind → ℕ → Halted
fault kind line = halted (Fault kind) line

-- Where operands have no type that the operator takes, or no function takes the call. Typed
-- programs never come here.
abbrev pub stuck : ℕ → Halted
stuck line = halted Stuck line

-- what an operation gives in a statement on a line
abbrev pub on_line : {A : Type 0} → ℕ → Result A Halt → Result A Halted
on_line line (Ok a) = Ok a
on_line line (Err why) = Err (halted why line)

abbrev pub same_bytes : List ℕ → List ℕ → Bool
same_bytes = pointwise nat_eq

-- the value of each local that is set
abbrev pub Locals : Type 0
Locals = List ℕ → Option Value

abbrev pub nothing_set : Locals
nothing_set = λ x. None

abbrev pub with_local : Locals → List ℕ → Value → Locals
with_local s x v = λ y. if same_bytes y x then Some v else s y

-- What statements change: the locals, and the values that were printed so far, where they are kept.
-- They are kept in the entry's own statements, where printed values are compared, and nowhere else.
pub record State : Type 0 where
  pub locals : Locals
  pub printed : Option (List Value)

abbrev pub assign : State → List ℕ → Value → State
assign s x v = record { locals = with_local s.locals x v; printed = s.printed }

-- the value of a local
abbrev pub set_or_fault : Option Value → Result Value Halt
set_or_fault None = Err (Fault Unset)
set_or_fault (Some v) = Ok v
