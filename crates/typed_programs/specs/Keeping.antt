-- Values for slots, states and calls that keep the types of slots, and how typed statements end.
use Rattle.std.specs.Prelude.{◌≡◌, ⊤, ℕ, Bool, true, false, ◌&&◌, List, [], ◌∷◌, map, Option, Some}
use Rattle.std.specs.Prelude.{None, IsTrue, is_some, IfSome, MatchResult}
use Rattle.std.specs.List.{All}
use Rattle.std.specs.declared.result.Result.{Result}
use Rattle.mpy_tree.specs.declared.limits.Limits.{Limits}
use Rattle.mpy_tree.specs.declared.value.Value.{Value}
use Rattle.mpy_tree.specs.declared.typing.Ty.{Ty}
use Rattle.mpy_tree.specs.declared.typing.Slot.TheVariants.{Local, Result as Given}
use Rattle.mpy_tree.specs.declared.outcome.Halt.{Halt}
use Rattle.mpy_tree.specs.declared.outcome.Halt.TheVariants.{Fault, Stuck}
use Rattle.mpy_tree.specs.declared.outcome.Halted.{Halted}
use Rattle.mpy_tree.specs.Syntax.{Routine}
use Rattle.mpy_tree.specs.Values.{Locals}
use Rattle.mpy_tree.specs.Expressions.{Calls}
use Rattle.mpy_tree.specs.Statements.{Ran, Next, Broke, Continued, Returned, Failed}
use Rattle.mpy_tree.specs.Running.{Done}
use Rattle.mpy_tree.specs.SetTypes.{FactSet, Callee, called}
use Rattle.mpy_tree.specs.Sites.{Site}
use Rattle.mpy_tree.specs.Flows.{Flow, Keeps, site_flows}
use Rattle.mpy_tree.specs.Rules.{Slots, single, site_obeys}
use Rattle.mpy_tree.specs.Fitting.{fits_as}

-- one of the ten faults
abbrev pub IsFault : Halt → Type 0
IsFault (Fault kind) = ⊤
IsFault Stuck = ⊥

-- a value of the type that fits the limits
abbrev pub IsOf : Limits → Ty → Value → Type 0
IsOf l t v = IsTrue (fits_as l t v)

-- whether a value is for a slot: the slot has a type, of which it is a value that fits
abbrev pub is_for : Limits → Option Ty → Value → Bool
is_for l None v = false
is_for l (Some t) v = fits_as l t v

-- the same of values and slots, one for each
abbrev pub are_for : Limits → List (Option Ty) → List Value → Bool
are_for l [] [] = true
are_for l (o ∷ os) (v ∷ vs) = is_for l o v && are_for l os vs
are_for l _ _ = false

abbrev pub IsFor : Limits → Option Ty → Value → Type 0
IsFor l o v = IsTrue (is_for l o v)

-- a run that ends without a fault has a value for the slot, or none
abbrev pub EndsFor : Limits → Option Ty → Done → Type 0
EndsFor l o d = IfSome d.value (IsFor l o)

abbrev pub AreFor : Limits → List (Option Ty) → List Value → Type 0
AreFor l os vs = IsTrue (are_for l os vs)

-- a result with the property, or one of the ten faults, but never stuck
abbrev pub Gives : {A : Type 0} → (A → Type 0) → Result A Halted → Type 0
Gives P r = MatchResult r P (λ h. IsFault h.halt)

module _ (S : Slots) where
  -- the slots of the parameters of a function, and of its result
  abbrev pub param_slots : Callee → List (Option Ty)
  param_slots g = map (λ x. S g.number (Local x)) g.routine.params

  abbrev pub result_slot : Option Callee → Option Ty
  result_slot None = None
  result_slot (Some g) = S g.number Given

  -- whether there is a function, and the arguments are for its parameters
  abbrev pub takes_call : Limits → Option Callee → List Value → Bool
  takes_call l None vs = false
  takes_call l (Some g) vs = are_for l (param_slots g) vs

  -- a call of a function with arguments for its parameters gives a value for its result
  abbrev pub KeepTypes : Limits → List Routine → Calls → Type 0
  KeepTypes l p calls =
      (f : List ℕ) (vs : List Value) (line : ℕ)
      → IsTrue (takes_call l (called p f) vs)
      → Gives (IsFor l (result_slot (called p f))) (calls f vs line)

-- each local of the function i that is set has a value for its slot
abbrev pub Agrees : Limits → Slots → ℕ → Locals → Type 0
Agrees l S i s = (x : List ℕ) (v : Value) → s x ≡ Some v → IsFor l (S i (Local x)) v

-- Statements of the function i end in a state whose locals agree, with a value for the result or
-- without a value, or by a fault.
abbrev pub EndsWell : Limits → Slots → ℕ → Ran → Type 0
EndsWell l S i (Next s) = Agrees l S i s.locals
EndsWell l S i (Broke s) = Agrees l S i s.locals
EndsWell l S i (Continued s) = Agrees l S i s.locals
EndsWell l S i (Returned v s) = IfSome v (IsFor l (S i Given))
EndsWell l S i (Failed h) = IsFault h.halt

-- a slot that has exactly one type, to which all types of the source belong
abbrev pub Settles : FactSet → List Routine → Flow → Type 0
Settles F p f = Keeps F p f × IsTrue (is_some (single F f.func f.slot))

-- A statement of the function i, without those inside of it, or a test: it obeys its rule, and what
-- it assigns or returns has the type of its slot.
abbrev pub IsTyped : FactSet → List Routine → ℕ → Site → Type 0
IsTyped F p i s = IsTrue (site_obeys (single F) p i s) × All (Settles F p) (site_flows i s)
