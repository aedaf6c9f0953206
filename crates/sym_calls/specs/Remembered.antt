-- Calls that are remembered: what is fixed meanwhile, and what is right of a call and what it gave.
use Rattle.std.specs.Prelude.{◌≡◌, ℕ, Bool, List, All, map, Some}
use Rattle.mpy_tree.specs.declared.limits.Limits.{Limits}
use Rattle.mpy_tree.specs.declared.typing.Ty.{Ty}
use Rattle.mpy_tree.specs.declared.value.Value.{Value}
use Rattle.mpy_tree.specs.Expressions.{Calls}
use Rattle.bit_words.specs.Logic.{OwnsAll}
use Rattle.sym_values.specs.declared.value.SymOutcome.{SymOutcome}
use Rattle.sym_values.specs.Forms.{form_for, form_of, joined, values_bits}
use Rattle.sym_values.specs.Reading.{OutcomeReads, read, sure}
use Rattle.sym_values.specs.Results.{IsOutcomeIn}
use Rattle.sym_nodes.specs.Environments.{PicksRead}
use Rattle.sym_expr.specs.Signatures.{Signatures, given_type, value_types}
use Rattle.sym_calls.specs.declared.call.Call.{Call}
use Rattle.sym_calls.specs.declared.call.MadeCall.{MadeCall}
use Rattle.sym_calls.specs.Alike.{AreAlike}

-- the functions that are called, which calls those of a level are at given limits where members of
-- picks are chosen, and the picks
pub record Fixed (B : Type 0) : Type 1 where
  pub signatures : Signatures
  pub are_calls : ℕ → Limits → (ℕ → ℕ) → Calls → Type 0
  pub picks : List (List B)

-- calls of one function at one level, on arguments that are the same bits
pub record IsSameCall {S B : Type 0} (reads : S → List Bool → B → Bool) (s : S) (c d : Call B)
    : Type 0 where
  pub level : c.level ≡ d.level
  pub limits : c.limits ≡ d.limits
  pub name : c.name ≡ d.name
  pub args : AreAlike reads s c.args d.args

-- What a call gives: it belongs to a state, has the form of the function's result, and reads as
-- what the calls of its level give on the values that the arguments read as.
pub record IsAnswer {S B : Type 0} (owns : S → B → Type 0) (reads : S → List Bool → B → Bool)
    (k : Fixed B) (s : S) (c : Call B) (o : SymOutcome B) : Type 0 where
  pub owned : IsOutcomeIn owns s (form_of o.value) o
  pub form : (t : Ty) → given_type k.signatures c.name (value_types c.args) ≡ Some t
      → form_of o.value ≡ form_for c.limits t
  pub value : (vs : List Bool) (m : ℕ → ℕ) (calls : Calls) (values : List Value) (line : ℕ)
      → k.are_calls c.level c.limits m calls → PicksRead (reads s vs) k.picks m
      → map (read (reads s vs)) c.args ≡ map sure values
      → OutcomeReads (reads s vs) o (calls c.name values line)

-- the calls that were made gave what they give
pub record AreRight {S B : Type 0} (owns : S → B → Type 0) (reads : S → List Bool → B → Bool)
    (k : Fixed B) (s : S) (made : List (MadeCall B)) : Type 0 where
  pub picks : OwnsAll owns s (joined k.picks)
  pub args : All (λ c. OwnsAll owns s (values_bits c.call.args)) made
  pub answers : All (λ c. IsAnswer owns reads k s c.call c.outcome) made
