-- Weighted statements whose expressions have the types that the rules of the statements ask.
use Rattle.std.specs.Prelude.{◌≡◌, ⊤, ℕ, Bool, true, false, ◌&&◌, List, [], ◌∷◌, Option, Some}
use Rattle.std.specs.Prelude.{slice_get, is_some, IsTrue}
use Rattle.mpy_tree.specs.declared.typing.Ty.{Ty}
use Rattle.mpy_tree.specs.declared.typing.Ty.TheVariants as ty
use Rattle.mpy_tree.specs.declared.typing.Slot.TheVariants as slot
use Rattle.mpy_tree.specs.Options.{◌>>=◌}
use Rattle.mpy_tree.specs.Rules.{augment_obeys, is_type, member_of}
use Rattle.mpy_tree.specs.Trees as kind
use Rattle.mpy_tree.specs.Trees.{Kind}
use Rattle.choice_tree.specs.Contexts.{Setting, scope_in}
use Rattle.choice_tree.specs.Typing.{Scope, same_type}
use Rattle.choice_tree.specs.WeightedTrees.{Weighted, Weighteds, plainly, pick, no_weighted}
use Rattle.choice_tree.specs.WeightedTrees.{weighted_and, children}
use Rattle.sym_nodes.specs.Plain.{type_of, types_of}

-- the type of a local, and that of what the function gives
abbrev pub local_type : Scope → List ℕ → Option Ty
local_type σ x = σ.slots σ.number (slot.Local x)

abbrev pub result_type : Scope → Option Ty
result_type σ = σ.slots σ.number slot.Result

-- a list, of which an element is set to a number
abbrev pub puts : Option Ty → Option Ty → Option Ty → Bool
puts x i e = is_type ty.List x && is_type ty.Int i && is_type ty.Int e

-- a list, to which a number is appended
abbrev pub appends : Option Ty → Option Ty → Bool
appends x e = is_type ty.List x && is_type ty.Int e

-- a list or a text, whose members have the type of the local
abbrev pub goes_over : Option Ty → Option Ty → Bool
goes_over x e = same_type (e >>= member_of) x

-- a statement without others inside of it obeys its rule, where its expressions have these types:
-- what is assigned or returned has the type of its slot
abbrev pub obeys : Scope → Kind → List (Option Ty) → Bool
obeys σ (kind.Assign line x) (e ∷ []) = same_type e (local_type σ x)
obeys σ (kind.Augment line x op) (e ∷ []) = augment_obeys op (local_type σ x) e
obeys σ (kind.Put line x) (i ∷ e ∷ []) = puts (local_type σ x) i e
obeys σ (kind.AugmentAt line x op) (i ∷ e ∷ []) = puts (local_type σ x) i e
obeys σ (kind.Append line x) (e ∷ []) = appends (local_type σ x) e
obeys σ (kind.Print line) (e ∷ []) = is_some e
obeys σ (kind.Return line) [] = true
obeys σ (kind.Return line) (e ∷ []) = same_type e (result_type σ)
obeys σ (kind.Pass line) [] = true
obeys σ (kind.Break line) [] = true
obeys σ (kind.Continue line) [] = true
obeys σ _ _ = false

-- a statement, an arm, a body or a function, with all that is inside of it
abbrev mutual
  pub IsTyped : Scope → Weighted → Type 0
  IsTyped σ (plainly (kind.If line) ws) = AreTyped σ ws
  IsTyped σ (plainly (kind.Arm line) ws) = IsBody σ is_some ws
  IsTyped σ (plainly (kind.While line) ws) = IsBody σ is_some ws
  IsTyped σ (plainly (kind.For line x) ws) = IsBody σ (goes_over (local_type σ x)) ws
  IsTyped σ (plainly kind.Block ws) = AreTyped σ ws
  IsTyped σ (plainly (kind.Function line f xs) ws) = AreTyped σ ws
  IsTyped σ (plainly k ws) = IsTrue (obeys σ k (types_of σ ws))
  IsTyped σ (pick number base os) = ⊥

  -- the expression of a loop or an arm, whose type passes the test, and the body
  pub IsBody : Scope → (Option Ty → Bool) → Weighteds → Type 0
  IsBody σ test (weighted_and e (weighted_and b no_weighted)) =
      IsTrue (test (type_of σ e)) × IsTyped σ b
  IsBody σ test _ = ⊥

  pub AreTyped : Scope → Weighteds → Type 0
  AreTyped σ no_weighted = ⊤
  AreTyped σ (weighted_and w ws) = IsTyped σ w × AreTyped σ ws

-- each function of a weighted program, by its number
abbrev pub IsTypedProgram : Setting → Weighted → Type 0
IsTypedProgram g w =
    (i : ℕ) (f : Weighted) → slice_get (children w) i ≡ Some f → IsTyped (scope_in g i) f
