-- Costs in binary and in unary.
use Rattle.std.specs.Prelude.{◌≡◌, ◌≤◌, ℕ, zero, suc, Bool, List, [], ◌∷◌, ◌++◌, length, map, min}
use Rattle.std.specs.Prelude.{pos, nat_lt, Option, Some, None}
use Rattle.bit_words.specs.Logic.{OwnsAll}
use Rattle.bit_words.specs.Words.{int_of}
use Rattle.sym_cost.specs.declared.notation.Notation.{Notation}
use Rattle.sym_cost.specs.declared.notation.Notation.TheVariants as by

-- so many truth values, of which number j, from 0, is true where a number is above j
abbrev pub counter : ℕ → ℕ → List Bool
counter zero n = []
counter (suc bound) n = counter bound n ++ nat_lt bound n ∷ []

-- truth values are those of a number, where those past their end are false up to a bound
abbrev pub Counts : ℕ → List Bool → ℕ → Type 0
Counts bound bits n = (bits ≡ counter (length bits) n) × (min bound n ≤ length bits)

-- how many bits a cost may have
abbrev pub HasWidth : Notation → ℕ → Type 0
HasWidth by.Binary width = width ≡ 14
HasWidth (by.Unary bound) width = width ≤ bound

-- bits that belong to a state, as many as a cost may have
pub record IsNotedIn {S B : Type 0} (owns : S → B → Type 0) (s : S) (form : Notation)
    (w : List B) : Type 0 where
  pub owned : OwnsAll owns s w
  pub width : HasWidth form (length w)

-- costs that are written right; a counter is right for each
abbrev pub HasRoom : Notation → ℕ → Type 0
HasRoom by.Binary n = n ≤ 4096
HasRoom (by.Unary bound) n = Unit {0}

-- truth values are those of a cost
abbrev pub Spells : Notation → List Bool → ℕ → Type 0
Spells by.Binary bits n = int_of bits ≡ pos n
Spells (by.Unary bound) bits n = Counts bound bits n

-- a cost that may have no bits, where it is 0
abbrev pub Writes : {B : Type 0} → (B → Bool) → Notation → Option (List B) → ℕ → Type 0
Writes rd form None n = n ≡ 0
Writes rd form (Some w) n = Spells form (map rd w) n

abbrev pub IsCostIn : {S B : Type 0} → (S → B → Type 0) → S → Notation → Option (List B) → Type 0
IsCostIn owns s form None = Unit {0}
IsCostIn owns s form (Some w) = IsNotedIn owns s form w
