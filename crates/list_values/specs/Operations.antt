-- What an operation on lists and texts as bits owes to the language's own.
use Rattle.std.specs.Prelude.{◌≡◌, Bool, List, length}
use Rattle.std.specs.declared.result.Result.{Result}
use Rattle.mpy_tree.specs.declared.limits.Limits.{Limits}
use Rattle.mpy_tree.specs.declared.value.Value.{Value}
use Rattle.mpy_tree.specs.declared.outcome.Halt.{Halt}
use Rattle.sym_values.specs.declared.value.SymValue.{SymValue}
use Rattle.sym_values.specs.declared.value.SymOutcome.{SymOutcome}
use Rattle.sym_values.specs.Reading.{OutcomeReads, read, sure}
use Rattle.list_values.specs.Sequences.{items_of}

-- under all values of the variables under which a list or a text reads as one whose length is
-- right, and limits that allow as many items as it has room for, an outcome reads as what an
-- operation gives on it
abbrev pub SequenceGives : {S B : Type 0} → (S → List Bool → B → Bool) → (old new : S)
    → SymValue B → SymOutcome B → (List Bool → Limits → Value → Result Value Halt) → Type 0
SequenceGives reads old new a outcome op =
    (vs : List Bool) (l : Limits) (v : Value) → l.cap ≡ length (items_of a)
    → read (reads old vs) a ≡ sure v → OutcomeReads (reads new vs) outcome (op vs l v)

-- the same of two lists or texts
abbrev pub SequencesGive : {S B : Type 0} → (S → List Bool → B → Bool) → (old new : S)
    → (a b : SymValue B) → SymOutcome B → (Limits → Value → Value → Result Value Halt) → Type 0
SequencesGive reads old new a b outcome op =
    (vs : List Bool) (l : Limits) (v w : Value) → l.cap ≡ length (items_of a)
    → read (reads old vs) a ≡ sure v → read (reads old vs) b ≡ sure w
    → OutcomeReads (reads new vs) outcome (op l v w)
