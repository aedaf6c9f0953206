-- What a step and a pass over flows do to the types of slots.
use Rattle.std.specs.Prelude.{◌≡◌, ℕ, ◌+◌, ◌<◌, Bool, true, false, List, [], ◌∷◌, length, take, map}
use Rattle.std.specs.Prelude.{slice_set}
use Rattle.std.specs.List.{All}
use Rattle.mpy_tree.specs.declared.typing.TypeSet.{TypeSet}
use Rattle.mpy_tree.specs.TypeSets.{no_types, join, within, IsWithin}
use Rattle.mpy_types.specs.declared.inflow.Source.{Source}
use Rattle.mpy_types.specs.declared.inflow.Source.TheVariants as source
use Rattle.mpy_types.specs.declared.inflow.Inflow.{Inflow}
use Rattle.mpy_types.specs.Inflows.{through}
use Rattle.mpy_types.specs.Tables.{type_at}

-- the types of a source, where slots have these
abbrev pub types_from : List TypeSet → Source → TypeSet
types_from v (source.Fixed s) = s
types_from v (source.Slot via k) = through via (type_at v k)

-- no types of each slot
abbrev pub are_none : {A : Type 0} → List A → List TypeSet
are_none xs = map (λ x. no_types) xs

-- what flows into a slot that is there is within its types
abbrev pub Holds : List TypeSet → Inflow → Type 0
Holds v f = f.to < length v → IsWithin (types_from v f.from) (type_at v f.to)

abbrev pub AllHold : List TypeSet → List Inflow → Type 0
AllHold v fs = All (Holds v) fs

-- as many slots, and the types of each are within those of the other
pub record IsBelow (v w : List TypeSet) : Type 0 where
  pub many : length w ≡ length v
  pub each : (k : ℕ) → IsWithin (type_at v k) (type_at w k)

abbrev pub one_if_not : Bool → ℕ
one_if_not true = 0
one_if_not false = 1

-- how many types a set lacks
abbrev pub absent : TypeSet → ℕ
absent s = one_if_not s.int + one_if_not s.bool + one_if_not s.list + one_if_not s.text

-- how many types slots lack
abbrev pub lacking : List TypeSet → ℕ
lacking [] = 0
lacking (s ∷ ss) = absent s + lacking ss

-- a flow holds already, or its slot gets the types of its source
abbrev pub IsStep : Bool → List TypeSet → List TypeSet → Inflow → Type 0
IsStep false v w f = Holds v f × (w ≡ v)
IsStep true v w f =
    (f.to < length v)
    × (within (types_from v f.from) (type_at v f.to) ≡ false)
    × (w ≡ slice_set v f.to (join (type_at v f.to) (types_from v f.from)))

-- after the first n of the flows: whether a slot got types
pub record IsPass (risen : Bool) (v w : List TypeSet) (fs : List Inflow) (n : ℕ) : Type 0 where
  pub below : (u : List TypeSet) → AllHold u fs → IsBelow v u → IsBelow w u
  pub many : length w ≡ length v
  pub same : risen ≡ false → w ≡ v
  pub settled : risen ≡ false → AllHold v (take n fs)
  pub fewer : risen ≡ true → lacking w < lacking v

-- the least types of n slots by which the flows hold
pub record AreLeast (v : List TypeSet) (n : ℕ) (fs : List Inflow) : Type 0 where
  pub many : length v ≡ n
  pub hold : AllHold v fs
  pub least : (u : List TypeSet) → length u ≡ n → AllHold u fs → IsBelow v u
