-- A function of which only the name and the type of what it gives are known, or none.
use Rattle.std.specs.Prelude.{◌≡◌, ℕ, List, [], ◌∷◌, Option, Some, None, IsSome}
use Rattle.std.specs.declared.result.Result.TheVariants.{Ok}
use Rattle.mpy_tree.specs.declared.typing.Slot.{Slot}
use Rattle.mpy_tree.specs.declared.typing.Slot.TheVariants as slot
use Rattle.mpy_tree.specs.declared.typing.Ty.{Ty}
use Rattle.mpy_tree.specs.declared.value.Value.{Value}
use Rattle.mpy_tree.specs.Expressions.{Calls}
use Rattle.mpy_tree.specs.SetTypes.{called}
use Rattle.mpy_tree.specs.Syntax.{Routine, end}
use Rattle.sym_expr.specs.declared.bodiless.Bodiless.{Bodiless}
use Rattle.sym_expr.specs.Signatures.{Signatures}

abbrev pub only_result : Ty → Slot → Option Ty
only_result t slot.Result = Some t
only_result t (slot.Local x) = None

abbrev pub bodiless : Option (List ℕ) → List Routine
bodiless None = []
bodiless (Some f) = record { line = 0; name = f; params = []; body = end } ∷ []

abbrev pub bodiless_signatures : Bodiless → Signatures
bodiless_signatures b = record {
  program = bodiless b.name;
  slots = λ i x. only_result b.gives x;
}

-- each call of it is a fault
abbrev pub AreFaults : Bodiless → Calls → Type 0
AreFaults b calls =
    (f : List ℕ) (vs : List Value) (line : ℕ) (v : Value) → IsSome (called (bodiless b.name) f)
    → calls f vs line ≡ Ok v → ⊥
