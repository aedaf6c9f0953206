-- The parts of a node as bits: their types, what they read as, and what an operation on them owes
-- the language's own.
use Rattle.std.specs.Prelude.{◌≡◌, Bool, true, false, ◌||◌, List, [], ◌∷◌, All, map, ◌⊎◌}
use Rattle.std.specs.Prelude.{Option, Some, None}
use denote.Ref.{Bor}
use Rattle.std.specs.declared.result.Result.{Result}
use Rattle.mpy_tree.specs.declared.limits.Limits.{Limits}
use Rattle.mpy_tree.specs.declared.typing.Ty.{Ty}
use Rattle.mpy_tree.specs.declared.typing.Ty.TheVariants as ty
use Rattle.mpy_tree.specs.declared.value.Value.{Value}
use Rattle.mpy_tree.specs.declared.value.Value.TheVariants.{Bool as Truth}
use Rattle.mpy_tree.specs.declared.outcome.Halt.{Halt}
use Rattle.mpy_tree.specs.declared.outcome.Halted.{Halted}
use Rattle.sym_values.specs.declared.value.SymValue.{SymValue}
use Rattle.sym_values.specs.declared.value.SymValue.TheVariants as sym
use Rattle.sym_values.specs.declared.value.SymOutcome.{SymOutcome}
use Rattle.sym_values.specs.Forms.{form_for}
use Rattle.sym_values.specs.Reading.{OutcomeReads, read, sure}
use Rattle.sym_values.specs.Results.{IsOutcomeIn, IsValueIn}

-- the type of a value as bits
abbrev pub ty_of : {B : Type 0} → SymValue B → Ty
ty_of (sym.Int word) = ty.Int
ty_of (sym.Bool bit) = ty.Bool
ty_of (sym.List len items) = ty.List
ty_of (sym.Text len items) = ty.Text

-- a value, and an outcome, of the form that values of their type have at given limits
abbrev pub IsTypedIn : {S B : Type 0} → (S → B → Type 0) → S → Limits → SymValue B → Type 0
IsTypedIn owns s l x = IsValueIn owns s (form_for l (ty_of x)) x

abbrev pub IsPartIn : {S B : Type 0} → (S → B → Type 0) → S → Limits → SymOutcome B → Type 0
IsPartIn owns s l o = IsOutcomeIn owns s (form_for l (ty_of o.value)) o

pub record ArePartsIn {S B : Type 0} (owns : S → B → Type 0) (s : S) (l : Limits)
    (parts : List (SymOutcome B)) : Type 0 where
  pub each : All (IsPartIn owns s l) parts

-- the fault bits of parts
abbrev pub faults_of : {B : Type 0} → List (SymOutcome B) → List B
faults_of = map (λ o. o.fault)

-- the values of parts, and their types
abbrev pub values_of : {B : Type 0} → List (SymOutcome B) → List (SymValue B)
values_of = map (λ o. o.value)

abbrev pub types_of : {B : Type 0} → List (SymOutcome B) → List (Option Ty)
types_of parts = map (λ x. Some (ty_of x)) (values_of parts)

-- the values of parts read as these
abbrev pub ValuesRead : {B : Type 0} → (B → Bool) → List (SymOutcome B) → List Value → Type 0
ValuesRead rd parts vs = map (read rd) (values_of parts) ≡ map sure vs

-- an end of a slice, which may be missing, reads as a value
abbrev pub EndReads : {B : Type 0} → (B → Bool) → Option (Bor (SymValue B)) → Option Value → Type 0
EndReads rd None None = Unit {0}
EndReads rd (Some x) (Some v) = read rd x.now ≡ sure v
EndReads rd None (Some v) = ⊥
EndReads rd (Some x) None = ⊥

-- each part reads as a result
abbrev pub PartsRead : {B : Type 0} → (B → Bool) → List (SymOutcome B)
    → List (Result Value Halted) → Type 0
PartsRead rd [] [] = Unit {0}
PartsRead rd (o ∷ os) (r ∷ rs) = OutcomeReads rd o r × PartsRead rd os rs
PartsRead rd [] (r ∷ rs) = ⊥
PartsRead rd (o ∷ os) [] = ⊥

-- under all values of the variables under which the values of parts read as some, an outcome reads
-- as what an operation gives on these
abbrev pub PartsGive : {S B : Type 0} → (S → List Bool → B → Bool) → (old new : S)
    → List (SymOutcome B) → SymOutcome B → (List Value → Result Value Halt) → Type 0
PartsGive reads old new parts outcome op =
    (values : List Bool) (vs : List Value) → ValuesRead (reads old values) parts vs
    → OutcomeReads (reads new values) outcome (op vs)

-- the left side of an `and` or an `or` settles it: it is a fault, or the value at which that stops
abbrev pub Settles : {B : Type 0} → (B → Bool) → Bool → SymOutcome B → Type 0
Settles rd stop o = (rd o.fault ≡ true) ⊎ (read rd o.value ≡ sure (Truth stop))

-- whether one of some truth values is true
abbrev pub any_true : List Bool → Bool
any_true [] = false
any_true (b ∷ bs) = b || any_true bs
