-- Statements are typed alike in scopes that agree on locals, calls and what the function gives.
use Rattle.std.proofs.Common.{◌≡◌, ℕ, Bool, List, [], ◌∷◌, refl, sym, ap, ◌∙◌, subst, Option}
use Rattle.std.proofs.Common.{is_some}
use Rattle.mpy_tree.specs.Rules.{augment_obeys}
use Rattle.mpy_tree.specs.declared.typing.Ty.{Ty}
use Rattle.mpy_tree.specs.Trees as kind
use Rattle.mpy_tree.specs.Trees.{Kind}
use Rattle.choice_tree.specs.Typing.{Scope, same_type}
use Rattle.choice_tree.specs.WeightedTrees.{Weighted, Weighteds, plainly, pick, no_weighted}
use Rattle.choice_tree.specs.WeightedTrees.{weighted_and}
use Rattle.sym_nodes.specs.Plain.{types_of}
use Rattle.typed_trees.specs.Locals.{SameCalls, SameLocals}
use Rattle.typed_trees.specs.TypedStatements.{AreTyped, IsBody, IsTyped, appends, goes_over}
use Rattle.typed_trees.specs.TypedStatements.{local_type, obeys, puts, result_type}
use Rattle.typed_trees.proofs.LocalTypes.{all_follow}

module _ (σ τ : Scope) (locals : SameLocals σ τ) (calls : SameCalls σ τ)
    (result : result_type σ ≡ result_type τ) where
  types_same : (ws : Weighteds) → types_of σ ws ≡ types_of τ ws
  types_same no_weighted = refl
  types_same (weighted_and w ws) =
      λ i. all_follow σ τ w locals calls i ∷ types_same ws i

  obeys_same : (k : Kind) (os : List (Option Ty)) → obeys σ k os ≡ obeys τ k os
  obeys_same (kind.Assign line x) (e ∷ []) = ap (same_type e) (locals x)
  obeys_same (kind.Augment line x op) (e ∷ []) = λ i. augment_obeys op (locals x i) e
  obeys_same (kind.Put line x) (k ∷ e ∷ []) = λ i. puts (locals x i) k e
  obeys_same (kind.AugmentAt line x op) (k ∷ e ∷ []) = λ i. puts (locals x i) k e
  obeys_same (kind.Append line x) (e ∷ []) = λ i. appends (locals x i) e
  obeys_same (kind.Return line) (e ∷ []) = ap (same_type e) result
  obeys_same k os = refl

  mutual
    pub typed_follows : (w : Weighted) → IsTyped σ w → IsTyped τ w
    typed_follows (plainly (kind.If line) ws) h = bodies_follow ws h
    typed_follows (plainly (kind.Arm line) ws) h = body_follows is_some ws h
    typed_follows (plainly (kind.While line) ws) h = body_follows is_some ws h
    typed_follows (plainly (kind.For line x) ws) h =
        subst (λ (o : Option Ty). IsBody τ (goes_over o) ws) (locals x)
        (body_follows (goes_over (local_type σ x)) ws h)
    typed_follows (plainly kind.Block ws) h = bodies_follow ws h
    typed_follows (plainly (kind.Function line f xs) ws) h = bodies_follow ws h
    typed_follows (plainly k ws) h =
        sym (ap (obeys σ k) (types_same ws) ∙ obeys_same k (types_of τ ws)) ∙ h
    typed_follows (pick number base os) h = absurd h

    body_follows : (test : Option Ty → Bool) (ws : Weighteds) → IsBody σ test ws
        → IsBody τ test ws
    body_follows test (weighted_and e (weighted_and b no_weighted)) h =
        (sym (ap test (all_follow σ τ e locals calls)) ∙ h.0, typed_follows b h.1)
    body_follows test _ h = absurd h

    bodies_follow : (ws : Weighteds) → AreTyped σ ws → AreTyped τ ws
    bodies_follow no_weighted h = tt
    bodies_follow (weighted_and w ws) h = (typed_follows w h.0, bodies_follow ws h.1)
