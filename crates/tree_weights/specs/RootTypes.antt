-- The type of an expression, read off its root: where the expression keeps the rules of typing, it
-- is the type by these. All members of a pick have the type of its base.
use Rattle.std.specs.Prelude.{ℕ, List, Option, Some, None}
use Rattle.mpy_tree.specs.declared.builtins.Builtin.{Builtin}
use Rattle.mpy_tree.specs.declared.operators.ArithOp.TheVariants as arith
use Rattle.mpy_tree.specs.declared.typing.Fact.{Fact}
use Rattle.mpy_tree.specs.declared.typing.Slot.{Slot}
use Rattle.mpy_tree.specs.declared.typing.Slot.TheVariants as slot
use Rattle.mpy_tree.specs.declared.typing.Ty.{Ty}
use Rattle.mpy_tree.specs.declared.typing.Ty.TheVariants as ty
use Rattle.mpy_tree.specs.Builtins.{builtin_of}
use Rattle.mpy_tree.specs.Options.{◌>>=◌}
use Rattle.mpy_tree.specs.Rules.{single, member_of}
use Rattle.mpy_tree.specs.SetTypes.{builtin_gives}
use Rattle.mpy_tree.specs.Trees as kind
use Rattle.mpy_tree.specs.Trees.{Kind}
use Rattle.mpy_tree.specs.Typings.{set_of}
use Rattle.choice_tree.specs.WeightedTrees.{Weighted, Weighteds, plainly, pick, no_weighted}
use Rattle.choice_tree.specs.WeightedTrees.{weighted_and}
use Rattle.tree_weights.specs.Functions.{Function, function_of}

-- a function, by its number, of a weighted program whose names have these types, and the number of
-- the function that a run enters
pub record WeightedScope : Type 0 where
  pub facts : List Fact
  pub functions : Weighteds
  pub entry : ℕ
  pub number : ℕ

abbrev pub slot_type : WeightedScope → Slot → Option Ty
slot_type σ s = single (set_of σ.facts) σ.number s

abbrev pub result_type : WeightedScope → Option Function → Option Ty
result_type σ None = None
result_type σ (Some g) = single (set_of σ.facts) g.number slot.Result

-- a call of a builtin, or else of a function of the program
abbrev pub called_type : Option Builtin → Option Ty → Option Ty
called_type (Some b) o = Some (builtin_gives b)
called_type None o = o

-- of a node, by the type of its first part
abbrev pub root_type : WeightedScope → Kind → Option Ty → Option Ty
root_type σ (kind.Int n) o = Some ty.Int
root_type σ (kind.Bool b) o = Some ty.Bool
root_type σ (kind.Text cs) o = Some ty.Text
root_type σ (kind.Name x) o = slot_type σ (slot.Local x)
root_type σ kind.List o = Some ty.List
root_type σ kind.Neg o = Some ty.Int
root_type σ kind.Not o = Some ty.Bool
root_type σ (kind.Arith arith.Add) o = o
root_type σ (kind.Arith arith.Mul) o = o
root_type σ (kind.Arith op) o = Some ty.Int
root_type σ (kind.Cmp op) o = Some ty.Bool
root_type σ kind.And o = Some ty.Bool
root_type σ kind.Or o = Some ty.Bool
root_type σ kind.Cond o = o
root_type σ kind.Index o = o >>= member_of
root_type σ (kind.Slice from to) o = o
root_type σ (kind.Call f) o =
    called_type (builtin_of f) (result_type σ (function_of σ.functions f))
root_type σ _ o = None

abbrev mutual
  pub type_at : WeightedScope → Weighted → Option Ty
  type_at σ (plainly k ws) = root_type σ k (first_type σ ws)
  type_at σ (pick number base os) = type_at σ base

  pub first_type : WeightedScope → Weighteds → Option Ty
  first_type σ no_weighted = None
  first_type σ (weighted_and w ws) = type_at σ w

abbrev pub second_type : WeightedScope → Weighteds → Option Ty
second_type σ no_weighted = None
second_type σ (weighted_and w ws) = first_type σ ws
