-- What a call that was made now gives.
use Rattle.std.proofs.Common.{◌≡◌, ℕ, Bool, List, Option, Some, None, IsSome, map, sym, ◌∙◌, refl}
use Rattle.mpy_tree.specs.declared.typing.Ty.{Ty}
use Rattle.mpy_tree.specs.declared.value.Value.{Value}
use Rattle.mpy_tree.specs.Expressions.{Calls}
use Rattle.bit_words.specs.Logic.{Keeps, OwnsAll}
use Rattle.sym_values.specs.declared.value.SymOutcome.{SymOutcome}
use Rattle.sym_values.specs.Forms.{Form, form_for, form_of, joined, values_bits}
use Rattle.sym_values.specs.Later.{values_later}
use Rattle.sym_values.specs.Reading.{OutcomeReads, read, sure}
use Rattle.sym_values.specs.Results.{IsOutcomeIn}
use Rattle.sym_nodes.specs.Environments.{PicksRead}
use Rattle.sym_expr.specs.Signatures.{given_type, value_types}
use Rattle.sym_calls.specs.declared.call.Call.{Call}
use Rattle.sym_calls.specs.Remembered.{Fixed, IsAnswer}
use Rattle.sym_calls.proofs.Laters.{picks_before, read_alike}

own_form : {S B : Type 0} {owns : S → B → Type 0} {s : S} {f : Form} {o : SymOutcome B}
    → IsOutcomeIn owns s f o → IsOutcomeIn owns s (form_of o.value) o
own_form h = record { owned = h.owned; owned_fault = h.owned_fault; form = refl }

-- an outcome that has the form of each type that a call may give
some_form : {S B : Type 0} {owns : S → B → Type 0} {s : S} {f : Ty → Form} (o : SymOutcome B)
    (r : Option Ty) → IsSome r → ((t : Ty) → r ≡ Some t → IsOutcomeIn owns s (f t) o)
    → IsOutcomeIn owns s (form_of o.value) o
some_form o None h made = absurd cc
some_form o (Some t) h made = own_form (made t refl)

module _ {S B : Type 0} {owns : S → B → Type 0} {reads : S → List Bool → B → Bool} where
  pub answer_made : {old new : S} {k : Fixed B} (c : Call B) (o : SymOutcome B)
      → Keeps owns reads old new → OwnsAll owns old (joined k.picks)
      → OwnsAll owns old (values_bits c.args)
      → IsSome (given_type k.signatures c.name (value_types c.args))
      → ((t : Ty) → given_type k.signatures c.name (value_types c.args) ≡ Some t
      → IsOutcomeIn owns new (form_for c.limits t) o)
      → ((vs : List Bool) (m : ℕ → ℕ) (calls : Calls) (values : List Value) (line : ℕ)
      → k.are_calls c.level c.limits m calls → PicksRead (reads old vs) k.picks m
      → map (read (reads old vs)) c.args ≡ map sure values
      → OutcomeReads (reads new vs) o (calls c.name values line))
      → IsAnswer owns reads k new c o
  answer_made {old} {new} {k} c o p picks args typed made value = record {
    owned = some_form o _ typed made;
    form = λ t e. (made t e).form;
    value = λ vs m calls values line called chosen given.
        let before = read_alike (reads old vs) (reads new vs) c.args c.args
        (sym (values_later p c.args args vs)) ∙ given in
        value vs m calls values line called (picks_before p picks vs m chosen) before;
  }
