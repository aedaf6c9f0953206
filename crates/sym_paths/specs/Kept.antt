-- What is kept of printed values, changed.
use Rattle.std.specs.Prelude.{◌≡◌, Bool, true, List, [], ◌∷◌, ◌++◌, Option}
use Rattle.mpy_tree.specs.declared.value.Value.{Value}
use Rattle.mpy_tree.specs.Values.{State}
use Rattle.sym_values.specs.declared.value.SymValue.{SymValue}
use Rattle.sym_paths.specs.Paths.{number_fits, words_kept}

-- a state, but for what is kept
abbrev pub with_printed : State → Option (List Value) → State
with_printed s ps = record { locals = s.locals; printed = ps }

-- one word more counts
abbrev pub KeepsOneMore : (before after : List (SymValue Bool)) → List Bool → Type 0
KeepsOneMore before after w =
    (number_fits after ≡ true) × (words_kept after ≡ words_kept before ++ w ∷ [])
