-- What belongs to one state and so to another.
use Rattle.std.proofs.Common.{List, Option}
use Rattle.mpy_tree.specs.declared.limits.Limits.{Limits}
use Rattle.bit_words.specs.Logic.{OwnsAll}
use Rattle.sym_values.specs.declared.done.SymDone.{SymDone}
use Rattle.sym_values.specs.declared.value.SymOutcome.{SymOutcome}
use Rattle.sym_values.specs.Forms.{Form}
use Rattle.sym_values.specs.Printed.{IsDoneIn}
use Rattle.sym_values.specs.Results.{IsOutcomeIn}

module _ {S T B : Type 0} {owns : S → B → Type 0} {own : T → B → Type 0} {s : S} {t : T}
    (each : (b : B) → owns s b → own t b) where
  pub owned_as : {w : List B} → OwnsAll owns s w → OwnsAll own t w
  owned_as h = record { each = λ i b at. each _ (h.each i b at) }

  pub outcome_as : {f : Form} {o : SymOutcome B} → IsOutcomeIn owns s f o → IsOutcomeIn own t f o
  outcome_as h = record {
    owned = owned_as h.owned;
    owned_fault = each _ h.owned_fault;
    form = h.form;
  }

  pub done_as : {l : Limits} {f : Option Form} {d : SymDone B} → IsDoneIn owns s l f d
      → IsDoneIn own t l f d
  done_as h = record {
    owned = owned_as h.owned;
    owned_has = each _ h.owned_has;
    owned_fault = each _ h.owned_fault;
    owned_len = owned_as h.owned_len;
    owned_slots = owned_as h.owned_slots;
    form = h.form;
    long = h.long;
    many = h.many;
    widths = h.widths;
  }
