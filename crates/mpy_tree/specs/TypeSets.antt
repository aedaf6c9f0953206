-- Sets of types.
use Rattle.std.specs.Prelude.{Bool, true, false, not, ◌&&◌, ◌||◌, Option, Some, None, IsTrue}
use Rattle.mpy_tree.specs.declared.typing.Ty.{Ty}
use Rattle.mpy_tree.specs.declared.typing.Ty.TheVariants as ty
use Rattle.mpy_tree.specs.declared.typing.TypeSet.{TypeSet}

abbrev pub has : TypeSet → Ty → Bool
has s ty.Int = s.int
has s ty.Bool = s.bool
has s ty.List = s.list
has s ty.Text = s.text

abbrev pub no_types : TypeSet
no_types = record { int = false; bool = false; list = false; text = false }

-- the set of one type
abbrev pub just : Ty → TypeSet
just ty.Int = record { int = true; bool = false; list = false; text = false }
just ty.Bool = record { int = false; bool = true; list = false; text = false }
just ty.List = record { int = false; bool = false; list = true; text = false }
just ty.Text = record { int = false; bool = false; list = false; text = true }

-- the types of both sets
abbrev pub join : TypeSet → TypeSet → TypeSet
join s t =
    record {
      int = s.int || t.int;
      bool = s.bool || t.bool;
      list = s.list || t.list;
      text = s.text || t.text;
    }

-- the types of the members: Int of a List, Text of a Text
abbrev pub members : TypeSet → TypeSet
members s = record { int = s.list; bool = false; list = false; text = s.text }

abbrev pub only_of : Bool → Bool → Bool → Bool → Option Ty
only_of true false false false = Some ty.Int
only_of false true false false = Some ty.Bool
only_of false false true false = Some ty.List
only_of false false false true = Some ty.Text
only_of _ _ _ _ = None

-- the one type of a set that has exactly one
abbrev pub only : TypeSet → Option Ty
only s = only_of s.int s.bool s.list s.text

-- each type of the first set is one of the second: as a fact, and as a test
abbrev pub IsWithin : TypeSet → TypeSet → Type 0
IsWithin s t = (a : Ty) → IsTrue (has s a) → IsTrue (has t a)

abbrev pub within : TypeSet → TypeSet → Bool
within s t =
    (not s.int || t.int)
    && (not s.bool || t.bool)
    && (not s.list || t.list)
    && (not s.text || t.text)
