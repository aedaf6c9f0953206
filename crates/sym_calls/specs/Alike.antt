-- Values that are the same bits.
use Rattle.std.specs.Prelude.{◌≡◌, Bool, List, map}
use Rattle.sym_values.specs.declared.value.SymValue.{SymValue}
use Rattle.sym_values.specs.Reading.{map_bits}

-- bits, words, values and lists of values that read alike in a state under all truth values
abbrev pub BitsAlike : {S B : Type 0} → (S → List Bool → B → Bool) → S → (v w : List B) → Type 0
BitsAlike reads s v w = (vs : List Bool) → map (reads s vs) v ≡ map (reads s vs) w

abbrev pub WordsAlike : {S B : Type 0} → (S → List Bool → B → Bool) → S → (v w : List (List B))
    → Type 0
WordsAlike reads s v w = (vs : List Bool) → map (map (reads s vs)) v ≡ map (map (reads s vs)) w

abbrev pub IsAlike : {S B : Type 0} → (S → List Bool → B → Bool) → S → (x y : SymValue B) → Type 0
IsAlike reads s x y = (vs : List Bool) → map_bits (reads s vs) x ≡ map_bits (reads s vs) y

abbrev pub AreAlike : {S B : Type 0} → (S → List Bool → B → Bool) → S
    → (xs ys : List (SymValue B)) → Type 0
AreAlike reads s xs ys =
    (vs : List Bool) → map (map_bits (reads s vs)) xs ≡ map (map_bits (reads s vs)) ys
