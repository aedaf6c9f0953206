-- Numbers of picks change no type.
use Rattle.std.proofs.Common.{◌≡◌, ℕ, suc, ◌+◌, Bool, ◌∷◌, refl, ap, ◌∙◌, Option, is_some}
use Rattle.mpy_tree.specs.declared.typing.Ty.{Ty}
use Rattle.mpy_tree.specs.Trees as kind
use Rattle.choice_tree.specs.Typing.{Scope, node_type}
use Rattle.choice_tree.specs.WeightedTrees.{Others, Weighted, Weighteds, no_others, no_weighted}
use Rattle.choice_tree.specs.WeightedTrees.{numbered, numbered_all, numbered_others, other_and}
use Rattle.choice_tree.specs.WeightedTrees.{pick, picks, plainly, weighted_and}
use Rattle.sym_nodes.specs.Members.{common_type}
use Rattle.sym_nodes.specs.Plain.{other_types, type_of, types_of, where_all}
use Rattle.typed_trees.specs.TypedStatements.{AreTyped, IsBody, IsTyped, goes_over, local_type}
use Rattle.typed_trees.specs.TypedStatements.{obeys}

mutual
  pub numbered_type : (σ : Scope) (w : Weighted) (from : ℕ)
      → type_of σ (numbered w from) ≡ type_of σ w
  numbered_type σ (plainly k ws) from =
      ap (λ os. where_all os (node_type σ k os)) (numbered_types σ ws from)
  numbered_type σ (pick number base os) from =
      λ i. common_type (numbered_type σ base (suc from) i
      ∷ numbered_other_types σ os (suc from + picks base) i)

  pub numbered_types : (σ : Scope) (ws : Weighteds) (from : ℕ)
      → types_of σ (numbered_all ws from) ≡ types_of σ ws
  numbered_types σ no_weighted from = refl
  numbered_types σ (weighted_and w ws) from =
      λ i. numbered_type σ w from i ∷ numbered_types σ ws (from + picks w) i

  numbered_other_types : (σ : Scope) (os : Others) (from : ℕ)
      → other_types σ (numbered_others os from) ≡ other_types σ os
  numbered_other_types σ no_others from = refl
  numbered_other_types σ (other_and rule cost w os) from =
      λ i. numbered_type σ w from i ∷ numbered_other_types σ os (from + picks w) i

-- a typed statement stays typed
mutual
  pub numbered_typed : (σ : Scope) (w : Weighted) (from : ℕ) → IsTyped σ w
      → IsTyped σ (numbered w from)
  numbered_typed σ (plainly (kind.If line) ws) from h = all_numbered_typed σ ws from h
  numbered_typed σ (plainly (kind.Arm line) ws) from h = numbered_body σ is_some ws from h
  numbered_typed σ (plainly (kind.While line) ws) from h = numbered_body σ is_some ws from h
  numbered_typed σ (plainly (kind.For line x) ws) from h =
      numbered_body σ (goes_over (local_type σ x)) ws from h
  numbered_typed σ (plainly kind.Block ws) from h = all_numbered_typed σ ws from h
  numbered_typed σ (plainly (kind.Function line f xs) ws) from h = all_numbered_typed σ ws from h
  numbered_typed σ (plainly k ws) from h = ap (obeys σ k) (numbered_types σ ws from) ∙ h
  numbered_typed σ (pick number base os) from h = absurd h

  numbered_body : (σ : Scope) (test : Option Ty → Bool) (ws : Weighteds) (from : ℕ)
      → IsBody σ test ws → IsBody σ test (numbered_all ws from)
  numbered_body σ test (weighted_and e (weighted_and b no_weighted)) from h =
      (ap test (numbered_type σ e from) ∙ h.0, numbered_typed σ b (from + picks e) h.1)
  numbered_body σ test _ from h = absurd h

  all_numbered_typed : (σ : Scope) (ws : Weighteds) (from : ℕ) → AreTyped σ ws
      → AreTyped σ (numbered_all ws from)
  all_numbered_typed σ no_weighted from h = tt
  all_numbered_typed σ (weighted_and w ws) from h =
      (numbered_typed σ w from h.0, all_numbered_typed σ ws (from + picks w) h.1)
