-- Agreement with the reference on all inputs, and the best rewriting.
use Rattle.std.specs.Prelude.{◌≡◌, ◌≢◌, ◌==◌, Bool, true, not, ℕ, ◌≤◌, List}
use Rattle.std.specs.List.{Contains}
use Rattle.mpy_tree.specs.declared.limits.Limits.{Limits}
use Rattle.mpy_tree.specs.declared.value.Value.{Value}
use Rattle.mpy_tree.specs.declared.outcome.Outcome.{Outcome}
use Rattle.mpy_tree.specs.Outcomes.{is_done, run_outcome}
use Rattle.mpy_tree.specs.Syntax.{Routine}
use Rattle.bounds_reader.specs.declared.bounds.Bounds.{Bounds}
use Rattle.input_space.specs.Inputs.{inputs}

-- a list of values is one of the inputs within the bounds
abbrev pub IsInput : Bounds → List Value → Type 0
IsInput b vs = Contains (inputs b.params) vs

-- whether what the entry prints is compared, too; then it needs no value
abbrev pub compares : Limits → Bool
compares l = not (l.prints == 0)

-- how a program ends on an input
abbrev pub ends_on : Bounds → List Routine → List Value → Outcome
ends_on b p vs = run_outcome b.limits p b.entry vs

-- a program ends as the reference does, where that ends without a fault
abbrev pub EndsAlike : Bounds → List Routine → List Routine → List Value → Type 0
EndsAlike b reference p vs =
    is_done (ends_on b reference vs) ≡ true → ends_on b p vs ≡ ends_on b reference vs

-- The candidate does on every input: wherever the reference ends without a fault, it gives the same
-- value, or none where that gives none, and the same printed values where they are compared.
abbrev pub Agrees : Bounds → List Routine → List Routine → Type 0
Agrees b reference candidate = (vs : List Value) → IsInput b vs → EndsAlike b reference candidate vs

-- r ends without a fault on some input
pub record EndsSomewhere (b : Bounds) (r : List Routine) : Type 0 where
  pub input : List Value
  pub is_input : IsInput b input
  pub done : is_done (ends_on b r input) ≡ true

-- an input on which a program doesn't end as is wanted
pub record Failure : Type 0 where
  pub input : List Value
  pub gives : Outcome
  pub wanted : Outcome

-- the reference r ends there without a fault, and the submission s doesn't end so
pub record IsFailure (b : Bounds) (r s : List Routine) (f : Failure) : Type 0 where
  pub is_input : IsInput b f.input
  pub reference : ends_on b r f.input ≡ f.wanted
  pub done : is_done f.wanted ≡ true
  pub submission : ends_on b s f.input ≡ f.gives
  pub differ : f.gives ≢ f.wanted

-- a rewriting that agrees with r, of the least cost of those that do
pub record IsBest {E : Type 0} (rewrites : List Routine → ℕ → E → Type 0) (b : Bounds)
    (r p : List Routine) (cost : ℕ) (edits : E) : Type 0 where
  pub rewriting : rewrites p cost edits
  pub agrees : Agrees b r p
  pub least : (q : List Routine) (other : ℕ) (others : E) → rewrites q other others →
      Agrees b r q → cost ≤ other
