-- The type of a value, and the values that fit the limits of a run: numbers of the width, and lists
-- and texts no longer than the cap. They are what code stands for that keeps values in words and
-- lists of such sizes.
use Rattle.std.specs.Prelude.{Bool, true, false, ◌&&◌, List, [], ◌∷◌, length, nat_le}
use Rattle.std.specs.List.{list_all}
use Rattle.mpy_tree.specs.declared.limits.Limits.{Limits}
use Rattle.mpy_tree.specs.declared.typing.Ty.{Ty}
use Rattle.mpy_tree.specs.declared.typing.Ty.TheVariants as ty
use Rattle.mpy_tree.specs.declared.value.Value.{Value}
use Rattle.mpy_tree.specs.declared.value.Value.TheVariants as value
use Rattle.mpy_tree.specs.Operations.{fits}
use Rattle.mpy_tree.specs.Rules.{same_type}

abbrev pub type_of : Value → Ty
type_of (value.Int z) = ty.Int
type_of (value.Bool b) = ty.Bool
type_of (value.List zs) = ty.List
type_of (value.Text cs) = ty.Text

-- numbers within the width, and no more elements or characters than the cap
abbrev pub value_fits : Limits → Value → Bool
value_fits l (value.Int z) = fits l z
value_fits l (value.Bool b) = true
value_fits l (value.List zs) = nat_le (length zs) l.cap && list_all (fits l) zs
value_fits l (value.Text cs) = nat_le (length cs) l.cap

-- a value of the type that fits
abbrev pub fits_as : Limits → Ty → Value → Bool
fits_as l t v = same_type t (type_of v) && value_fits l v

-- values of these types, one for each, that fit
abbrev pub all_fit_as : Limits → List Ty → List Value → Bool
all_fit_as l [] [] = true
all_fit_as l (t ∷ ts) (v ∷ vs) = fits_as l t v && all_fit_as l ts vs
all_fit_as l _ _ = false
