-- Functions without bodies, and expressions that call none.
use Rattle.std.proofs.Common.{◌≡◌, ℕ, Bool, true, false, List, refl, sym, ap, ◌∙◌, Option, Some, None, IsSome, is_some}
use Rattle.std.specs.declared.result.Result.{Result}
use Rattle.std.specs.declared.result.Result.TheVariants.{Ok, Err}
use Rattle.mpy_tree.specs.declared.builtins.Builtin.{Builtin}
use Rattle.mpy_tree.specs.declared.outcome.Halted.{Halted}
use Rattle.mpy_tree.specs.declared.typing.Slot.TheVariants as slot
use Rattle.mpy_tree.specs.declared.typing.Ty.{Ty}
use Rattle.mpy_tree.specs.declared.value.Value.{Value}
use Rattle.mpy_tree.specs.Builtins.{builtin_of}
use Rattle.mpy_tree.specs.Options.{◌>>=◌}
use Rattle.mpy_tree.specs.Rules.{Slots, are_arguments, called_type, callee_type}
use Rattle.mpy_tree.specs.SetTypes.{Callee, called}
use Rattle.std.specs.Prelude.{if◌then◌else◌}
use Rattle.choice_tree.specs.WeightedTrees.{Weighted}
use Rattle.sym_values.specs.declared.value.SymOutcome.{SymOutcome}
use Rattle.sym_values.specs.Reading.{OutcomeReads}
use Rattle.sym_nodes.specs.declared.env.Env.{Env}
use Rattle.sym_nodes.specs.Environments.{scope_of}
use Rattle.sym_nodes.specs.Plain.{type_of}
use Rattle.sym_nodes.proofs.Scopes.{node_alike, tree_alike}
use Rattle.sym_expr.specs.declared.bodiless.Bodiless.{Bodiless}
use Rattle.sym_expr.specs.Bodiless.{bodiless, bodiless_signatures, only_result}
use Rattle.sym_expr.specs.Signatures.{Signatures, given_type, result_type, scope_at}
use Rattle.sym_expr.proofs.Calling.{own_slot}

if_holds : (b : Bool) (o : Option Ty) (t : Ty) → (if b then o else None) ≡ Some t → o ≡ Some t
if_holds true o t e = e
if_holds false o t e = absurd cc

callee_result : (S : Slots) (g : Option Callee) (os : List (Option Ty)) (t : Ty) → callee_type S g os ≡ Some t
    → (g >>= λ x. S x.number slot.Result) ≡ Some t
callee_result S None os t e = absurd cc
callee_result S (Some g) os t e = if_holds (are_arguments S g.number g.routine.params os) (S g.number slot.Result) t e

pub given_result : (c : Signatures) (f : List ℕ) (os : List (Option Ty)) (t : Ty) → given_type c f os ≡ Some t → result_type c f ≡ Some t
given_result c f os t e = callee_result c.slots (called c.program f) os t e

gives : (t : Ty) (g : Option Callee) → IsSome (g >>= λ x. only_result t slot.Result) → (g >>= λ x. only_result t slot.Result) ≡ Some t
gives t None h = cc
gives t (Some g) h = refl

pub bodiless_gives : (b : Bodiless) (f : List ℕ) → IsSome (result_type (bodiless_signatures b) f) → result_type (bodiless_signatures b) f ≡ Some b.gives
bodiless_gives b f h = gives b.gives (called (bodiless b.name) f) h

pub bodiless_given : (b : Bodiless) (f : List ℕ) (os : List (Option Ty)) (t : Ty) → given_type (bodiless_signatures b) f os ≡ Some t → b.gives ≡ t
bodiless_given b f os t e =
    let result : result_type (bodiless_signatures b) f ≡ Some t = given_result (bodiless_signatures b) f os t e in
    let same : Some b.gives ≡ Some t = sym (bodiless_gives b f (ap is_some result)) ∙ result in cc

some_callee : (S : Slots) (g : Option Callee) (os : List (Option Ty)) (t : Ty) → callee_type S g os ≡ Some t → IsSome g
some_callee S None os t e = absurd cc
some_callee S (Some g) os t e = refl

pub is_called : (c : Signatures) (f : List ℕ) (os : List (Option Ty)) (t : Ty) → given_type c f os ≡ Some t → IsSome (called c.program f)
is_called c f os t e = some_callee c.slots (called c.program f) os t e

pub fault_read : {B : Type 0} (rd : B → Bool) (o : SymOutcome B) (r : Result Value Halted) → rd o.fault ≡ true → ((v : Value) → r ≡ Ok v → ⊥) → OutcomeReads rd o r
fault_read rd o (Ok v) h k = absurd (k v refl)
fault_read rd o (Err e) h k = h

none_called : (S R : Slots) (b : Option Builtin) (os : List (Option Ty)) → called_type S b None os ≡ called_type R b None os
none_called S R None os = refl
none_called S R (Some b) os = refl

-- an expression is typed alike where there are no functions
pub alone_typed : {B : Type 0} (t : Ty) (env : Env B) (w : Weighted) → type_of (scope_at (bodiless_signatures (record { name = None; gives = t })) env) w ≡ type_of (scope_of env) w
alone_typed t env w =
    let none = bodiless_signatures (record { name = None; gives = t }) in
    tree_alike (scope_at none env) (scope_of env) (λ k os. node_alike (scope_at none env) (scope_of env) k os
    (λ x. own_slot none env (slot.Local x)) (λ f is. none_called (scope_at none env).slots (scope_of env).slots (builtin_of f) os)) w
