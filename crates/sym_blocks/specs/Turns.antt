-- The items over which a `for` goes, where a state is reached.
use Rattle.std.specs.Prelude.{◌≡◌, Bool, List, Option, Some}
use Rattle.std.specs.declared.result.Result.TheVariants.{Ok}
use Rattle.mpy_tree.specs.declared.value.Value.{Value}
use Rattle.mpy_tree.specs.Operations.{members}
use Rattle.mpy_tree.specs.Values.{State}
use Rattle.sym_values.specs.declared.value.SymValue.{SymValue}
use Rattle.sym_values.specs.Reading.{read, sure}

-- a list or a text reads as one that has these items
pub record HasItems {B : Type 0} (rd : B → Bool) (list : SymValue B) (ms : List Value)
    : Type 0 where
  pub value : Value
  pub read_as : read rd list ≡ sure value
  pub items : members value ≡ Ok ms

-- it does where a state is reached
abbrev pub ItemsRead : {B : Type 0} → (B → Bool) → SymValue B → Option State → List Value → Type 0
ItemsRead rd list o ms = (s : State) → o ≡ Some s → HasItems rd list ms
