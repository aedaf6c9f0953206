-- What small lists of truth values spell.
use Rattle.std.specs.Prelude.{◌≡◌, pos, negsuc, Bool, true, false, List, [], ◌∷◌, Some, None, refl}
use Rattle.std.proofs.Common.{lit≤}
use Rattle.mpy_tree.specs.declared.limits.Limits.{Limits}
use Rattle.mpy_tree.specs.declared.typing.Ty.TheVariants as ty
use Rattle.mpy_tree.specs.declared.value.Value.TheVariants as value
use Rattle.input_space.specs.ValueBits.{value_at, values_at}
use Rattle.input_space.specs.SelectionBits.{member_bits, members_at}

-- numbers of 3 bits, lists of at most 2 items
abbrev small : Limits
small = record {
  width = 3;
  turns = 1;
  depth = 1;
  cap = 2;
  prints = 0;
  width_range = (lit≤ tt, lit≤ tt);
  turns_range = (lit≤ tt, lit≤ tt);
  depth_range = (lit≤ tt, lit≤ tt);
  cap_range = (lit≤ tt, lit≤ tt);
  prints_range = lit≤ tt;
}

-- 1, 2, 3, 4 and 5 members
bits : (member_bits 1 ≡ 0) × (member_bits 2 ≡ 1) × (member_bits 3 ≡ 2) × (member_bits 4 ≡ 2)
    × (member_bits 5 ≡ 3)
bits = (refl, refl, refl, refl, refl)

-- a pick of two members and one of three
chosen : members_at (2 ∷ 3 ∷ []) (true ∷ false ∷ true ∷ []) 0 ≡ Some (1 ∷ 2 ∷ [])
chosen = refl

-- there is no fourth member
no_member : members_at (2 ∷ 3 ∷ []) (true ∷ true ∷ true ∷ []) 0 ≡ None
no_member = refl

abbrev one_item : List Bool
one_item = true ∷ false ∷ false ∷ false ∷ false ∷ true ∷ true ∷ true ∷ false ∷ true ∷ false ∷ []

-- a list of one item, which is -1; the second isn't looked at
a_list : value_at small ty.List one_item 0 ≡ Some (value.List (negsuc 0 ∷ []))
a_list = refl

-- a truth value, and then a number
two_values : values_at small (ty.Bool ∷ ty.Int ∷ []) (true ∷ true ∷ true ∷ false ∷ []) 0 ≡ Some (value.Bool true ∷ value.Int (pos 3) ∷ [])
two_values = refl

-- a length above the limit decodes to nothing
too_long : value_at small ty.List (true ∷ true ∷ []) 0 ≡ None
too_long = refl
