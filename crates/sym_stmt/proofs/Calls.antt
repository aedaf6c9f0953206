-- A call of a function by its name: what its type says of the function.
use Rattle.std.proofs.Common.{◌≡◌, ℕ, Bool, true, false, List, Option, Some, None, refl, sym}
use Rattle.std.proofs.Common.{ap, ◌∙◌, subst, if◌then◌else◌, IsSome, IsTrue, is_some, length, map}
use Rattle.std.proofs.Common.{slice_get}
use Rattle.std.specs.declared.result.Result.{Result}
use Rattle.std.specs.declared.result.Result.TheVariants.{Err}
use Rattle.std.proofs.lemmas.Bool.{eq-eqb}
use Rattle.mpy_tree.specs.declared.limits.Limits.{Limits}
use Rattle.mpy_tree.specs.declared.outcome.Halted.{Halted}
use Rattle.mpy_tree.specs.declared.value.Value.{Value}
use Rattle.mpy_tree.specs.Expressions.{Calls}
use Rattle.mpy_tree.specs.Running.{done_by, enter, entered, found, given_by, kept_first}
use Rattle.mpy_tree.specs.Statements.{Ran}
use Rattle.mpy_tree.specs.Syntax.{Routine}
use Rattle.mpy_tree.specs.Values.{stuck}
use Rattle.sym_values.specs.declared.done.SymDone.{SymDone}
use Rattle.sym_values.specs.declared.value.SymOutcome.{SymOutcome}
use Rattle.sym_values.specs.Printed.{DoneReads}
use Rattle.sym_values.specs.Reading.{OutcomeReads}
use Rattle.mpy_tree.specs.declared.typing.Fact.{Fact}
use Rattle.mpy_tree.specs.declared.typing.Slot.TheVariants as slot
use Rattle.mpy_tree.specs.declared.typing.Ty.{Ty}
use Rattle.mpy_tree.specs.Options.{◌>>=◌}
use Rattle.mpy_tree.specs.Rules.{Slots, are_arguments, callee_type, single}
use Rattle.mpy_tree.specs.SetTypes.{Callee}
use Rattle.mpy_tree.specs.Typings.{set_of}
use Rattle.choice_tree.specs.declared.tree.WFunc.{WFunc}
use Rattle.choice_tree.specs.declared.tree.WProg.{WProg}
use Rattle.sym_expr.specs.Signatures.{given_type, result_type}
use Rattle.sym_stmt.specs.Programs.{callee_takes, functions_of, number_of, signatures_of, takes}
use Rattle.sym_values.specs.declared.value.SymValue.{SymValue}
use Rattle.sym_nodes.specs.Operands.{ty_of}
use Rattle.sym_stmt.proofs.Arguments.{arguments_are, types_there}
use Rattle.sym_stmt.proofs.Headers.{called_at, called_nowhere, called_there}

given_where : (b : Bool) (o : Option Ty) (t : Ty) → (if b then o else None) ≡ Some t
    → (b ≡ true) × (o ≡ Some t)
given_where true o t e = (refl, e)
given_where false o t e = absurd cc

result_where : (S : Slots) (o : Option Callee) (os : List (Option Ty)) (t : Ty)
    → callee_type S o os ≡ Some t → (o >>= λ c. S c.number slot.Result) ≡ Some t
result_where S None os t e = absurd cc
result_where S (Some c) os t e =
    (given_where (are_arguments S c.number c.routine.params os) (S c.number slot.Result) t e).1

pub some_type : (o : Option Ty) → IsSome o → (t : Ty) × (o ≡ Some t)
some_type None h = absurd cc
some_type (Some t) h = (t, refl)

module _ (w : WProg) (T : List Fact) (f : List ℕ) where
  -- the type of what is given is that of the function's result
  pub given_result : (os : List (Option Ty)) (t : Ty)
      → given_type (signatures_of w T) f os ≡ Some t → result_type (signatures_of w T) f ≡ Some t
  given_result os t e = result_where (single (set_of T)) _ os t e

  -- and the arguments have the types of its parameters
  pub given_at : (os : List (Option Ty)) (i : ℕ) (func : WFunc) (t : Ty)
      → number_of (functions_of w) f ≡ Some i → slice_get (functions_of w) i ≡ Some func
      → given_type (signatures_of w T) f os ≡ Some t
      → (are_arguments (single (set_of T)) i func.params os ≡ true)
      × (single (set_of T) i slot.Result ≡ Some t)
  given_at os i func t e is h =
      given_where (are_arguments (single (set_of T)) i func.params os)
      (single (set_of T) i slot.Result) t
      (sym (ap (λ o. callee_type (single (set_of T)) o os) (called_at f (functions_of w) i func e is))
      ∙ h)

  pub result_at : (i : ℕ) → number_of (functions_of w) f ≡ Some i
      → result_type (signatures_of w T) f ≡ single (set_of T) i slot.Result
  result_at i e =
      ap (λ (o : Option Callee). o >>= λ c. single (set_of T) c.number slot.Result)
      (called_there f (functions_of w) i e).1

  pub result_none : number_of (functions_of w) f ≡ None
      → result_type (signatures_of w T) f ≡ None
  result_none e =
      ap (λ (o : Option Callee). o >>= λ c. single (set_of T) c.number slot.Result)
      (called_nowhere f (functions_of w) e)

  -- a function that takes arguments has parameters of their types
  pub takes_at : (os : List (Option Ty)) (i : ℕ) (func : WFunc)
      → number_of (functions_of w) f ≡ Some i → slice_get (functions_of w) i ≡ Some func
      → IsTrue (takes (signatures_of w T) f os)
      → are_arguments (single (set_of T)) i func.params os ≡ true
  takes_at os i func e is h =
      sym (ap (λ o. callee_takes (single (set_of T)) o os)
      (called_at f (functions_of w) i func e is))
      ∙ h

  pub arguments_taken : {B : Type 0} (args : List (SymValue B)) (i : ℕ) (func : WFunc)
      → number_of (functions_of w) f ≡ Some i → slice_get (functions_of w) i ≡ Some func
      → IsTrue (takes (signatures_of w T) f (map (λ t. Some t) (map (λ x. ty_of x) args)))
      → map (λ x. single (set_of T) i (slot.Local x)) func.params
      ≡ map (λ x. Some (ty_of x)) args
  arguments_taken args i func e is h =
      let types = map (λ t. Some t) (map (λ x. ty_of x) args) in
      arguments_are (single (set_of T)) i func.params args
      (subst (λ os. are_arguments (single (set_of T)) i func.params os ≡ true)
      (types_there args) (takes_at types i func e is h))

  pub takes_nowhere : (os : List (Option Ty)) → number_of (functions_of w) f ≡ None
      → IsTrue (takes (signatures_of w T) f os) → ⊥
  takes_nowhere os e h =
      let none =
      ap (λ o. callee_takes (single (set_of T)) o os) (called_nowhere f (functions_of w) e) in
      cc

  -- what is given has a function
  pub given_nowhere : (os : List (Option Ty)) → number_of (functions_of w) f ≡ None
      → IsSome (given_type (signatures_of w T) f os) → ⊥
  given_nowhere os e h =
      let none =
      ap (λ o. is_some (callee_type (single (set_of T)) o os))
      (called_nowhere f (functions_of w) e) in
      cc

  pub result_nowhere : number_of (functions_of w) f ≡ None
      → IsSome (result_type (signatures_of w T) f) → ⊥
  result_nowhere e h =
      let none = ap is_some (result_none e) in
      cc

module _ {A : Type 0} (ends : ℕ → Ran → Result A Halted) (kept : Option (List Value))
    (l : Limits) (below : Calls) (p : List Routine) (f : List ℕ) (r : Routine)
    (values : List Value) (line : ℕ) where
  -- a function that is found and takes so many arguments is entered
  enters_found : found p f ≡ Some r → length values ≡ length r.params
      → enter ends kept l below (found p f) values line ≡ entered ends kept l below r values
  enters_found is many =
      ap (λ q. enter ends kept l below q values line) is
      ∙ ap (λ (b : Bool). if b then entered ends kept l below r values else Err (stuck line))
      (eq-eqb (length values) (length r.params) many)

-- what a call gives whose function is found and takes so many arguments
pub call_reads : {B : Type 0} (rd : B → Bool) (o : SymOutcome B) (k l : Limits)
    (calls below : Calls) (p : List Routine) (f : List ℕ) (r : Routine) (values : List Value)
    (line : ℕ) → calls f values line ≡ enter given_by None l below (found p f) values line
    → found p f ≡ Some r → length values ≡ length r.params → k ≡ l
    → OutcomeReads rd o (entered given_by None k below r values)
    → OutcomeReads rd o (calls f values line)
call_reads rd o k l calls below p f r values line e is many same h =
    let given =
    subst (λ (n : Limits). OutcomeReads rd o (entered given_by None n below r values)) same h in
    subst (OutcomeReads rd o)
    (sym (e ∙ enters_found given_by None l below p f r values line is many)) given

-- how a run ends of which the entry is found and takes so many arguments
pub run_reads : {B : Type 0} (rd : B → Bool) (o : SymDone B) (k l : Limits) (below : Calls)
    (p : List Routine) (f : List ℕ) (r : Routine) (values : List Value) (line : ℕ)
    → found p f ≡ Some r → length values ≡ length r.params → k ≡ l
    → DoneReads k rd o (entered done_by (kept_first k) k below r values)
    → DoneReads l rd o (enter done_by (kept_first l) l below (found p f) values line)
run_reads rd o k l below p f r values line is many same h =
    let done =
    subst (λ (n : Limits). DoneReads n rd o (entered done_by (kept_first n) n below r values))
    same h in
    subst (DoneReads l rd o)
    (sym (enters_found done_by (kept_first l) l below p f r values line is many)) done
