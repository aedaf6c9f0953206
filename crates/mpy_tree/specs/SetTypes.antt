-- The types of an expression: a set, which depends on what is known of the names.
use Rattle.std.specs.Prelude.{ℕ, ◌+◌, ◌==◌, Bool, true, false, ◌&&◌, List, [], ◌∷◌, Option, Some}
use Rattle.std.specs.Prelude.{None, if◌then◌else◌}
use Rattle.mpy_tree.specs.declared.operators.ArithOp.{ArithOp}
use Rattle.mpy_tree.specs.declared.operators.ArithOp.TheVariants.{Add, Mul}
use Rattle.mpy_tree.specs.declared.builtins.Builtin.{Builtin}
use Rattle.mpy_tree.specs.declared.builtins.Builtin.TheVariants.{Len, Abs, Min, Max, Range}
use Rattle.mpy_tree.specs.Builtins.{builtin_of}
use Rattle.mpy_tree.specs.declared.typing.Ty.{Ty}
use Rattle.mpy_tree.specs.declared.typing.Ty.TheVariants as ty
use Rattle.mpy_tree.specs.declared.typing.Slot.{Slot}
use Rattle.mpy_tree.specs.declared.typing.Slot.TheVariants as slot
use Rattle.mpy_tree.specs.Syntax.{Term, Routine}
use Rattle.mpy_tree.specs.Syntax as ast
use Rattle.mpy_tree.specs.Values.{same_bytes}
use Rattle.mpy_tree.specs.declared.typing.TypeSet.{TypeSet}
use Rattle.mpy_tree.specs.TypeSets.{no_types, just, join, members}

-- A set of facts: the types of each slot of each function. Functions are counted from 0, in order
-- of the file.
abbrev pub FactSet : Type 0
FactSet = ℕ → Slot → TypeSet

abbrev pub same_slot : Slot → Slot → Bool
same_slot (slot.Local x) (slot.Local y) = same_bytes x y
same_slot slot.Result slot.Result = true
same_slot _ _ = false

-- one slot of one function
abbrev pub same_place : ℕ → Slot → ℕ → Slot → Bool
same_place i x j y = (i == j) && same_slot x y

-- a function with its number
pub record Callee : Type 0 where
  pub number : ℕ
  pub routine : Routine

abbrev pub callee : ℕ → Routine → Callee
callee n r = record { number = n; routine = r }

-- the first function of a name, where the functions are numbered from n on
abbrev pub called_from : List Routine → List ℕ → ℕ → Option Callee
called_from [] f n = None
called_from (r ∷ rs) f n =
    if same_bytes f r.name then Some (callee n r) else called_from rs f (n + 1)

abbrev pub called : List Routine → List ℕ → Option Callee
called p f = called_from p f 0

-- the type that a builtin gives
abbrev pub builtin_gives : Builtin → Ty
builtin_gives Len = ty.Int
builtin_gives Abs = ty.Int
builtin_gives Min = ty.Int
builtin_gives Max = ty.Int
builtin_gives Range = ty.List

abbrev pub results : FactSet → Option Callee → TypeSet
results F None = no_types
results F (Some g) = F g.number slot.Result

-- what a call gives: of a builtin, or else of a function of the program
abbrev pub call_types : FactSet → Option Builtin → Option Callee → TypeSet
call_types F (Some b) g = just (builtin_gives b)
call_types F None g = results F g

abbrev pub arith_types : ArithOp → TypeSet → TypeSet → TypeSet
arith_types Add s t = join s t
arith_types Mul s t = s
arith_types _ s t = just ty.Int

-- the types of an expression in the function i of the program p
module _ (F : FactSet) (p : List Routine) (i : ℕ) where
  abbrev pub types_in : Term → TypeSet
  types_in (ast.Int n) = just ty.Int
  types_in (ast.Bool b) = just ty.Bool
  types_in (ast.Text cs) = just ty.Text
  types_in (ast.Name x) = F i (slot.Local x)
  types_in (ast.List es) = just ty.List
  types_in (ast.Neg e) = just ty.Int
  types_in (ast.Not e) = just ty.Bool
  types_in (ast.Arith op a b) = arith_types op (types_in a) (types_in b)
  types_in (ast.Cmp op a b) = just ty.Bool
  types_in (ast.And a b) = just ty.Bool
  types_in (ast.Or a b) = just ty.Bool
  types_in (ast.Cond t a b) = join (types_in a) (types_in b)
  types_in (ast.Index a i) = members (types_in a)
  types_in (ast.Slice a from to) = types_in a
  types_in (ast.Call f es) = call_types F (builtin_of f) (called p f)
