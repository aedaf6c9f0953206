-- Weighted trees: their types, and outcomes that read as what their plain expressions give.
use Rattle.std.specs.Prelude.{◌≡◌, ℕ, Bool, List, [], ◌∷◌, Option, Some, None}
use Rattle.std.specs.declared.result.Result.{Result}
use Rattle.mpy_tree.specs.declared.typing.Ty.{Ty}
use Rattle.mpy_tree.specs.declared.value.Value.{Value}
use Rattle.mpy_tree.specs.declared.outcome.Halted.{Halted}
use Rattle.mpy_tree.specs.Options.{◌>>=◌}
use Rattle.mpy_tree.specs.Syntax.{Term}
use Rattle.mpy_tree.specs.Shapes.{shape}
use Rattle.mpy_tree.specs.Trees.{Kind}
use Rattle.choice_tree.specs.Typing.{Scope, node_type}
use Rattle.choice_tree.specs.WeightedTrees.{Weighted, Weighteds, Others, plainly, pick}
use Rattle.choice_tree.specs.WeightedTrees.{no_weighted, weighted_and, no_others, other_and}
use Rattle.choice_tree.specs.Selections.{plain}
use Rattle.sym_nodes.specs.Members.{common_type}
use Rattle.sym_values.specs.declared.value.SymOutcome.{SymOutcome}
use Rattle.sym_values.specs.Reading.{OutcomeReads}

-- the kind of a node that is no pick
abbrev pub kind_of : Weighted → Option Kind
kind_of (plainly k ws) = Some k
kind_of (pick number base os) = None

-- the number of a pick
abbrev pub number_of : Weighted → Option ℕ
number_of (plainly k ws) = None
number_of (pick number base os) = Some number

-- the type of the root of a tree whose children have these types, if it obeys its rule: the members
-- of a pick have one type
abbrev pub root_type : Scope → Weighted → List (Option Ty) → Option Ty
root_type σ (plainly k ws) os = node_type σ k os
root_type σ (pick number base ms) os = common_type os

-- a type, where some have one each
abbrev pub where_all : List (Option Ty) → Option Ty → Option Ty
where_all [] r = r
where_all (o ∷ os) r = do
  t ← o
  where_all os r

-- the type of a weighted tree, if each of its nodes obeys its rule
abbrev mutual
  pub type_of : Scope → Weighted → Option Ty
  type_of σ (plainly k ws) = where_all (types_of σ ws) (node_type σ k (types_of σ ws))
  type_of σ (pick number base os) = common_type (type_of σ base ∷ other_types σ os)

  pub types_of : Scope → Weighteds → List (Option Ty)
  types_of σ no_weighted = []
  types_of σ (weighted_and w ws) = type_of σ w ∷ types_of σ ws

  pub other_types : Scope → Others → List (Option Ty)
  other_types σ no_others = []
  other_types σ (other_and rule cost w os) = type_of σ w ∷ other_types σ os

-- an outcome reads as what the plain expression of a tree gives
abbrev pub ReadsAsPlain : {B : Type 0} → (B → Bool) → (Term → Result Value Halted) → (ℕ → ℕ)
    → SymOutcome B → Weighted → Type 0
ReadsAsPlain rd value m o w = (t : Term) → shape t ≡ plain m w → OutcomeReads rd o (value t)

-- each of some outcomes reads so
abbrev pub AllReadAsPlain : {B : Type 0} → (B → Bool) → (Term → Result Value Halted) → (ℕ → ℕ)
    → List (SymOutcome B) → List Weighted → Type 0
AllReadAsPlain rd value m [] [] = Unit {0}
AllReadAsPlain rd value m (o ∷ os) (w ∷ ws) =
    ReadsAsPlain rd value m o w × AllReadAsPlain rd value m os ws
AllReadAsPlain rd value m [] (w ∷ ws) = ⊥
AllReadAsPlain rd value m (o ∷ os) [] = ⊥
