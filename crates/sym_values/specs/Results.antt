-- What a call states of the values that it makes: their bits belong to a state, and they have a
-- form.
use Rattle.std.specs.Prelude.{◌≡◌, ℕ, List}
use Rattle.bit_words.specs.Logic.{OwnsAll}
use Rattle.sym_values.specs.declared.value.SymValue.{SymValue}
use Rattle.sym_values.specs.declared.value.SymOutcome.{SymOutcome}
use Rattle.sym_values.specs.Forms.{Form, bits_of, form_of, joined, lengths}

-- words of these widths
pub record AreWordsIn {S B : Type 0} (owns : S → B → Type 0) (s : S) (ns : List ℕ)
    (words : List (List B)) : Type 0 where
  pub owned : OwnsAll owns s (joined words)
  pub widths : lengths words ≡ ns

-- a value of a form
pub record IsValueIn {S B : Type 0} (owns : S → B → Type 0) (s : S) (f : Form)
    (value : SymValue B) : Type 0 where
  pub owned : OwnsAll owns s (bits_of value)
  pub form : form_of value ≡ f

-- an outcome whose value has a form
pub record IsOutcomeIn {S B : Type 0} (owns : S → B → Type 0) (s : S) (f : Form)
    (outcome : SymOutcome B) : Type 0 where
  pub owned : OwnsAll owns s (bits_of outcome.value)
  pub owned_fault : owns s outcome.fault
  pub form : form_of outcome.value ≡ f
