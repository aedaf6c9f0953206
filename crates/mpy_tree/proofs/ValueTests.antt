-- Tests of values and of types decide what they say.
use Rattle.std.proofs.Common.{◌≡◌, Bool, List, ℤ, refl, ap}
use Rattle.std.specs.Bool.{Decides}
use Rattle.std.specs.Cmp.Lexicographic.{pointwise}
use Rattle.std.specs.Ordering.{int_eq}
use Rattle.std.proofs.lemmas.Bool.Decides.{Decides-int_eq, Decides-like}
use Rattle.std.proofs.lemmas.Slice.Eq.{slice_eq-Decides}
use Rattle.mpy_tree.specs.declared.typing.Ty.{Ty}
use Rattle.mpy_tree.specs.declared.typing.Ty.TheVariants as ty
use Rattle.mpy_tree.specs.declared.value.Value.TheVariants as value
use Rattle.mpy_tree.specs.Rules.{same_type}

-- two lists are one value where their numbers are the same
pub lists_decide : (r : Bool) (xs ys : List ℤ) → r ≡ pointwise int_eq xs ys → Decides r (value.List xs ≡ value.List ys)
lists_decide r xs ys e =
    Decides-like r (λ h. ap value.List h) (λ h. cc) (slice_eq-Decides Decides-int_eq xs ys r e)

pub types_decide : (t u : Ty) → Decides (same_type t u) (t ≡ u)
types_decide ty.Int ty.Int = (λ h. refl, λ h. refl)
types_decide ty.Bool ty.Bool = (λ h. refl, λ h. refl)
types_decide ty.List ty.List = (λ h. refl, λ h. refl)
types_decide ty.Text ty.Text = (λ h. refl, λ h. refl)
types_decide _ _ = (λ h. cc, λ h. cc)
