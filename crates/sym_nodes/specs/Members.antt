-- The members of a pick: their type, and which one is chosen.
use Rattle.std.specs.Prelude.{ℕ, List, [], ◌∷◌, Option, Some, None, nat_lt, if◌then◌else◌}
use Rattle.mpy_tree.specs.declared.typing.Ty.{Ty}
use Rattle.mpy_tree.specs.Options.{◌>>=◌}
use Rattle.mpy_tree.specs.Rules.{choice_type}

-- the type of all of some, where it is one
abbrev pub common : Ty → List (Option Ty) → Option Ty
common t [] = Some t
common t (o ∷ os) = do
  u ← o
  v ← choice_type t u
  common t os

abbrev pub common_type : List (Option Ty) → Option Ty
common_type [] = None
common_type (o ∷ os) = do
  t ← o
  common t os

-- the place of the member with a number among so many, of which the base is the first
abbrev pub place_chosen : ℕ → ℕ → ℕ
place_chosen member count = if nat_lt member count then member else 0
