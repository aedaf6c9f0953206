-- The type of a tree of nodes in a function of a typed program. A node's type follows from those
-- of its parts.
use Rattle.std.specs.Prelude.{◌&&◌, ℕ, zero, suc, Bool, true, false, List, [], ◌∷◌, Option, Some}
use Rattle.std.specs.Prelude.{None}
use Rattle.std.specs.Prelude.{if◌then◌else◌}
use Rattle.mpy_tree.specs.declared.typing.Ty.{Ty}
use Rattle.mpy_tree.specs.declared.typing.Ty.TheVariants as ty
use Rattle.mpy_tree.specs.declared.typing.Slot.TheVariants as slot
use Rattle.mpy_tree.specs.Syntax.{Routine}
use Rattle.mpy_tree.specs.Builtins.{builtin_of}
use Rattle.mpy_tree.specs.Locals.{locals}
use Rattle.mpy_tree.specs.Options.{◌>>=◌}
use Rattle.mpy_tree.specs.SetTypes.{called}
use Rattle.mpy_tree.specs.Rules as rules
use Rattle.mpy_tree.specs.Rules.{Slots, type_if, all_numbers, negative_type, arith_type, both_are}
use Rattle.mpy_tree.specs.Rules.{compare_type, choice_type, index_type, slice_type, call_type}
use Rattle.mpy_tree.specs.Trees.{Kind, Tree, Trees, node, no_trees, tree_and}
use Rattle.mpy_tree.specs.Trees as kind

-- a function, by its number, of a program whose slots have these types
pub record Scope : Type 0 where
  pub slots : Slots
  pub program : List Routine
  pub number : ℕ

-- the locals of a function, by its number, in order of first appearance
abbrev pub locals_of : List Routine → ℕ → List (List ℕ)
locals_of [] i = []
locals_of (r ∷ rs) zero = locals r
locals_of (r ∷ rs) (suc i) = locals_of rs i

-- of a node with one part, with two, and with three
abbrev pub of_one : (Ty → Option Ty) → List (Option Ty) → Option Ty
of_one f (o ∷ []) = o >>= f
of_one f _ = None

abbrev pub of_two : (Ty → Ty → Option Ty) → List (Option Ty) → Option Ty
of_two f (o ∷ r ∷ []) = do
  a ← o
  b ← r
  f a b
of_two f _ = None

abbrev pub of_three : (Ty → Ty → Ty → Option Ty) → List (Option Ty) → Option Ty
of_three f (o ∷ r ∷ s ∷ []) = do
  a ← o
  b ← r
  c ← s
  f a b c
of_three f _ = None

-- of a slice, whose ends stand behind what is sliced
abbrev pub sliced : List (Option Ty) → Option Ty
sliced [] = None
sliced (o ∷ ends) = do
  t ← o
  if all_numbers ends then slice_type t else None

-- the type of a node whose parts have these types, if it obeys its rule
abbrev pub node_type : Scope → Kind → List (Option Ty) → Option Ty
node_type σ (kind.Int n) os = Some ty.Int
node_type σ (kind.Bool b) os = Some ty.Bool
node_type σ (kind.Text cs) os = Some ty.Text
node_type σ (kind.Name x) os = σ.slots σ.number (slot.Local x)
node_type σ kind.List os = type_if (all_numbers os) ty.List
node_type σ kind.Neg os = of_one negative_type os
node_type σ kind.Not os = of_one (λ t. Some ty.Bool) os
node_type σ (kind.Arith op) os = of_two (arith_type op) os
node_type σ (kind.Cmp op) os = of_two (compare_type op) os
node_type σ kind.And os = of_two (both_are ty.Bool) os
node_type σ kind.Or os = of_two (both_are ty.Bool) os
node_type σ kind.Cond os = of_three (λ yes test no. choice_type yes no) os
node_type σ kind.Index os = of_two index_type os
node_type σ (kind.Slice from to) os = sliced os
node_type σ (kind.Call f) os =
    call_type σ.slots (σ.slots σ.number (slot.Local f)) (builtin_of f) (called σ.program f) os
node_type σ _ os = None

-- the type of a term, if every node obeys its rule
abbrev mutual
  pub type_of : Scope → Tree → Option Ty
  type_of σ (node k ts) = node_type σ k (types_of σ ts)

  pub types_of : Scope → Trees → List (Option Ty)
  types_of σ no_trees = []
  types_of σ (tree_and t ts) = type_of σ t ∷ types_of σ ts

-- both have a type, and it is the same
abbrev pub same_type : Option Ty → Option Ty → Bool
same_type (Some a) (Some b) = rules.same_type a b
same_type _ _ = false

abbrev pub is_name : Tree → Bool
is_name (node (kind.Name x) ts) = true
is_name _ = false

abbrev pub is_list_name : Scope → Tree → Bool
is_list_name σ t = is_name t && same_type (type_of σ t) (Some ty.List)

-- t[:]
abbrev pub copy_of : Tree → Tree
copy_of t = node (kind.Slice false false) (tree_and t no_trees)
