-- The flows of a program by the numbers of its slots.
use Rattle.std.specs.Prelude.{ℕ, List, [], ◌∷◌, ◌++◌, Option, Some, None}
use Rattle.mpy_tree.specs.declared.operators.ArithOp.{ArithOp}
use Rattle.mpy_tree.specs.declared.operators.ArithOp.TheVariants.{Add, Mul}
use Rattle.mpy_tree.specs.declared.builtins.Builtin.{Builtin}
use Rattle.mpy_tree.specs.Builtins.{builtin_of}
use Rattle.mpy_tree.specs.declared.typing.Ty.TheVariants as ty
use Rattle.mpy_tree.specs.declared.typing.Slot.TheVariants as slot
use Rattle.mpy_tree.specs.declared.typing.TypeSet.{TypeSet}
use Rattle.mpy_tree.specs.TypeSets.{just, members}
use Rattle.mpy_tree.specs.Syntax.{Term, Routine}
use Rattle.mpy_tree.specs.Syntax as ast
use Rattle.mpy_tree.specs.SetTypes.{Callee, called, builtin_gives}
use Rattle.mpy_tree.specs.Flows.{Flow, Source as Origin, given, value, each}
use Rattle.mpy_types.specs.declared.inflow.Via.{Via}
use Rattle.mpy_types.specs.declared.inflow.Via.TheVariants.{Whole, Members, Texts}
use Rattle.mpy_types.specs.declared.inflow.Source.{Source}
use Rattle.mpy_types.specs.declared.inflow.Source.TheVariants as source
use Rattle.mpy_types.specs.declared.inflow.Inflow.{Inflow}
use Rattle.mpy_scopes.specs.Numbers.{number}

abbrev pub deeper : Via → Via
deeper Whole = Members
deeper Members = Texts
deeper Texts = Texts

abbrev pub through : Via → TypeSet → TypeSet
through Whole s = s
through Members s = members s
through Texts s = members (members s)

abbrev pub inflow : ℕ → Source → Inflow
inflow to s = record { to = to; from = s }

abbrev pub fixed : ℕ → Via → TypeSet → List Inflow
fixed to via s = inflow to (source.Fixed (through via s)) ∷ []

-- from a slot, if it has a number
abbrev pub from_slot : ℕ → Via → Option ℕ → List Inflow
from_slot to via None = []
from_slot to via (Some k) = inflow to (source.Slot via k) ∷ []

abbrev pub from_result : List Routine → ℕ → Via → Option Callee → List Inflow
from_result p to via None = []
from_result p to via (Some g) = from_slot to via (number p g.number slot.Result)

abbrev pub from_call : List Routine → ℕ → Via → Option Builtin → Option Callee → List Inflow
from_call p to via (Some b) g = fixed to via (just (builtin_gives b))
from_call p to via None g = from_result p to via g

abbrev pub from_arith : ArithOp → List Inflow → List Inflow → List Inflow → List Inflow
from_arith Add xs ys zs = xs ++ ys
from_arith Mul xs ys zs = xs
from_arith _ xs ys zs = zs

-- from an expression of the function i into the slot of a number
module _ (p : List Routine) (i to : ℕ) where
  abbrev pub inflows_of : Via → Term → List Inflow
  inflows_of via (ast.Int n) = fixed to via (just ty.Int)
  inflows_of via (ast.Bool b) = fixed to via (just ty.Bool)
  inflows_of via (ast.Text cs) = fixed to via (just ty.Text)
  inflows_of via (ast.Name x) = from_slot to via (number p i (slot.Local x))
  inflows_of via (ast.List es) = fixed to via (just ty.List)
  inflows_of via (ast.Neg e) = fixed to via (just ty.Int)
  inflows_of via (ast.Not e) = fixed to via (just ty.Bool)
  inflows_of via (ast.Arith op a b) =
      from_arith op (inflows_of via a) (inflows_of via b) (fixed to via (just ty.Int))
  inflows_of via (ast.Cmp op a b) = fixed to via (just ty.Bool)
  inflows_of via (ast.And a b) = fixed to via (just ty.Bool)
  inflows_of via (ast.Or a b) = fixed to via (just ty.Bool)
  inflows_of via (ast.Cond t a b) = inflows_of via a ++ inflows_of via b
  inflows_of via (ast.Index a k) = inflows_of (deeper via) a
  inflows_of via (ast.Slice a from end) = inflows_of via a
  inflows_of via (ast.Call f es) = from_call p to via (builtin_of f) (called p f)

abbrev pub inflows_from : List Routine → ℕ → Origin → List Inflow
inflows_from p to (given t) = fixed to Whole (just t)
inflows_from p to (value i e) = inflows_of p i to Whole e
inflows_from p to (each i e) = inflows_of p i to Members e

-- into a slot, if it has a number
abbrev pub into : Option ℕ → (ℕ → List Inflow) → List Inflow
into None f = []
into (Some k) f = f k

abbrev pub flow_inflows : List Routine → Flow → List Inflow
flow_inflows p f = into (number p f.func f.slot) (λ to. inflows_from p to f.from)
