-- Lists of a given length, and the value with which a type begins.
use Rattle.std.specs.Prelude.{ℕ, zero, suc, List, [], ◌∷◌, false, pos}
use Rattle.mpy_tree.specs.declared.typing.Ty.{Ty}
use Rattle.mpy_tree.specs.declared.typing.Ty.TheVariants as ty
use Rattle.mpy_tree.specs.declared.value.Value.{Value}
use Rattle.mpy_tree.specs.declared.value.Value.TheVariants as val

-- the first k of a list, which is padded with z
abbrev pub padded : {A : Type 0} → A → ℕ → List A → List A
padded z zero xs = []
padded z (suc k) [] = z ∷ padded z k []
padded z (suc k) (x ∷ xs) = x ∷ padded z k xs

-- 0, False, or what is empty
abbrev pub zero_of : Ty → Value
zero_of ty.Int = val.Int (pos 0)
zero_of ty.Bool = val.Bool false
zero_of ty.List = val.List []
zero_of ty.Text = val.Text []
