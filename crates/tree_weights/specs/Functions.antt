-- The functions of a weighted program, by name.
use Rattle.std.specs.Prelude.{ℕ, ◌+◌, Bool, false, if◌then◌else◌, List, Option, Some, None}
use Rattle.mpy_tree.specs.Trees as kind
use Rattle.mpy_tree.specs.Values.{same_bytes}
use Rattle.choice_tree.specs.WeightedTrees.{Weighted, Weighteds, plainly, no_weighted, weighted_and}

-- a function with its number, counted from 0 in order of the file
pub record Function : Type 0 where
  pub number : ℕ
  pub tree : Weighted

abbrev pub function : ℕ → Weighted → Function
function n w = record { number = n; tree = w }

abbrev pub is_named : List ℕ → Weighted → Bool
is_named f (plainly (kind.Function line g params) ws) = same_bytes f g
is_named f _ = false

-- the first function of a name, where the functions are numbered from n on
abbrev pub function_from : Weighteds → List ℕ → ℕ → Option Function
function_from no_weighted f n = None
function_from (weighted_and w ws) f n =
    if is_named f w then Some (function n w) else function_from ws f (n + 1)

abbrev pub function_of : Weighteds → List ℕ → Option Function
function_of ws f = function_from ws f 0
