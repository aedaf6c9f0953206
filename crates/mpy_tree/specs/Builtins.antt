-- The builtin functions: their names, and how many arguments each takes.
use Rattle.std.specs.Prelude.{ℕ, Bool, ◌==◌, ◌&&◌, List, [], ◌∷◌, Option, codes, nat_le}
use Rattle.std.specs.List.{find}
use Rattle.mpy_tree.specs.declared.builtins.Builtin.{Builtin}
use Rattle.mpy_tree.specs.declared.builtins.Builtin.TheVariants.{Len, Abs, Min, Max, Range}
use Rattle.mpy_tree.specs.Values.{same_bytes}

abbrev pub builtins : List Builtin
builtins = Len ∷ Abs ∷ Min ∷ Max ∷ Range ∷ []

abbrev pub builtin_name : Builtin → List ℕ
builtin_name Len = codes "len"
builtin_name Abs = codes "abs"
builtin_name Min = codes "min"
builtin_name Max = codes "max"
builtin_name Range = codes "range"

-- the builtin of a name
abbrev pub builtin_of : List ℕ → Option Builtin
builtin_of f = find (λ b. same_bytes f (builtin_name b)) builtins

-- whether a builtin takes so many arguments
abbrev pub takes : Builtin → ℕ → Bool
takes Len n = n == 1
takes Abs n = n == 1
takes Min n = n == 2
takes Max n = n == 2
takes Range n = nat_le 1 n && nat_le n 3
