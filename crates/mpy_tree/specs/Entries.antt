-- How a program is entered: the function, the types of its arguments, and whether its result may
-- have no type.
use Rattle.std.specs.Prelude.{ℕ, Bool, false, List}
use Rattle.mpy_tree.specs.declared.typing.Signature.{Signature}
use Rattle.mpy_tree.specs.declared.typing.Ty.{Ty}

pub record Entry : Type 0 where
  pub name : List ℕ
  pub types : List Ty
  pub free_result : Bool

abbrev pub entry_of : Signature → Entry
entry_of s = record { name = s.entry; types = s.params; free_result = s.free_result }

-- a function that is to give a value
abbrev pub valued : List ℕ → List Ty → Entry
valued f ts = record { name = f; types = ts; free_result = false }
