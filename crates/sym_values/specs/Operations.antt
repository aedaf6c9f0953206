-- What an operation on numbers as bits owes to the language's own.
use Rattle.std.specs.Prelude.{◌≡◌, Bool, List, length}
use Rattle.std.specs.declared.result.Result.{Result}
use Rattle.mpy_tree.specs.declared.limits.Limits.{Limits}
use Rattle.mpy_tree.specs.declared.value.Value.{Value}
use Rattle.mpy_tree.specs.declared.value.Value.TheVariants as val
use Rattle.mpy_tree.specs.declared.outcome.Halt.{Halt}
use Rattle.bit_words.specs.Words.{int_read}
use Rattle.sym_values.specs.declared.value.SymValue.{SymValue}
use Rattle.sym_values.specs.declared.value.SymOutcome.{SymOutcome}
use Rattle.sym_values.specs.Reading.{OutcomeReads, read, sure}

-- the number that a word reads as in a state, under values of its variables
abbrev pub number_read : {S B : Type 0} → (S → List Bool → B → Bool) → S → List Bool → List B
    → Value
number_read reads state values word = val.Int (int_read reads state values word)

-- under all values of the variables, and limits whose numbers have the word's width, an outcome
-- reads as what an operation gives on the word's number
abbrev pub NumberGives : {S B : Type 0} → (S → List Bool → B → Bool) → (old new : S) → List B
    → SymOutcome B → (Limits → Value → Result Value Halt) → Type 0
NumberGives reads old new a outcome op =
    (vs : List Bool) (l : Limits) → l.width ≡ length a
    → OutcomeReads (reads new vs) outcome (op l (number_read reads old vs a))

-- the same of two words of one width
abbrev pub NumbersGive : {S B : Type 0} → (S → List Bool → B → Bool) → (old new : S)
    → (a b : List B) → SymOutcome B → (Limits → Value → Value → Result Value Halt) → Type 0
NumbersGive reads old new a b outcome op =
    (vs : List Bool) (l : Limits) → l.width ≡ length a
    → OutcomeReads (reads new vs) outcome
    (op l (number_read reads old vs a) (number_read reads old vs b))

-- under all values of the variables under which a value reads as one whose length is right, an
-- outcome reads as what an operation gives on it
abbrev pub ValueGives : {S B : Type 0} → (S → List Bool → B → Bool) → (old new : S) → SymValue B
    → SymOutcome B → (Value → Result Value Halt) → Type 0
ValueGives reads old new a outcome op =
    (vs : List Bool) (v : Value) → read (reads old vs) a ≡ sure v
    → OutcomeReads (reads new vs) outcome (op v)

-- the same of two values
abbrev pub ValuesGive : {S B : Type 0} → (S → List Bool → B → Bool) → (old new : S)
    → (a b : SymValue B) → SymOutcome B → (Value → Value → Result Value Halt) → Type 0
ValuesGive reads old new a b outcome op =
    (vs : List Bool) (v w : Value)
    → read (reads old vs) a ≡ sure v → read (reads old vs) b ≡ sure w
    → OutcomeReads (reads new vs) outcome (op v w)
