-- The locals and the state that a frame holds.
use Rattle.std.specs.Prelude.{◌≡◌, ⊤, ℕ, List, Option, Some, None}
use Rattle.std.specs.declared.result.Result.{Result}
use Rattle.std.specs.declared.result.Result.TheVariants.{Ok, Err}
use Rattle.std.specs.List.{find, position}
use Rattle.mpy_tree.specs.declared.value.Value.{Value}
use Rattle.mpy_interp.specs.declared.frame.Binding.{Binding}
use Rattle.mpy_interp.specs.declared.frame.Frame.{Frame}
use Rattle.value_operations.specs.declared.stop.Stop.{Stop}
use Rattle.value_operations.specs.declared.stop.Stop.TheVariants as stop
use Rattle.mpy_tree.specs.declared.outcome.Halt.{Halt}
use Rattle.mpy_tree.specs.Values.{◌>>=◌, Locals, State, same_bytes, on_line}
use Rattle.mpy_tree.specs.Values.{set_or_fault}
use Rattle.mpy_tree.specs.Statements.{Ran, Next, Failed, store}

-- the place of a name among bindings
abbrev pub place_of : List Binding → List ℕ → Option ℕ
place_of bs y = position (λ b. same_bytes y b.name.now) bs

abbrev pub value_in : Option Binding → Option Value
value_in None = None
value_in (Some b) = Some b.value

-- the value of the first binding of a name
abbrev pub looked : List Binding → Locals
looked bs y = value_in (find (λ b. same_bytes y b.name.now) bs)

abbrev pub locals_of : Frame → Locals
locals_of f = looked f.locals.items

abbrev pub state_of : Frame → State
state_of f = record { locals = locals_of f; printed = f.printed }

-- a local is changed by an operation on its value
abbrev pub changed : State → ℕ → List ℕ → (Value → Result Value Halt) → Ran
changed s line x op =
    store s x (on_line line (set_or_fault (s.locals x)) >>= λ v. on_line line (op v))

-- the change ends as the definition says, with this state, unless memory lacked
abbrev pub Changes : {A : Type 0} → Result A Stop → State → Ran → Type 0
Changes (Ok a) s r = r ≡ Next s
Changes (Err (stop.Halted h)) s r = r ≡ Failed h
Changes (Err stop.NoMemory) s r = ⊤
