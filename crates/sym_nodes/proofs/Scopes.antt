-- Scopes that give trees one type.
use Rattle.std.proofs.Common.{◌≡◌, ◌+◌, ◌<◌, ℕ, Bool, true, false, List, [], ◌∷◌, length, arith, refl, ap, ◌∙◌, Option, Some, None}
use Rattle.std.specs.Prelude.{◌&&◌, if◌then◌else◌}
use Rattle.mpy_tree.specs.declared.builtins.Builtin.{Builtin}
use Rattle.mpy_tree.specs.declared.typing.Slot.{Slot}
use Rattle.mpy_tree.specs.declared.typing.Slot.TheVariants as slot
use Rattle.mpy_tree.specs.declared.typing.Ty.{Ty}
use Rattle.mpy_tree.specs.Builtins.{builtin_of}
use Rattle.mpy_tree.specs.Rules.{Slots, are_arguments, call_type, called_type, callee_type, is_argument}
use Rattle.mpy_tree.specs.SetTypes.{Callee, callee, called, called_from}
use Rattle.mpy_tree.specs.Syntax.{Routine}
use Rattle.mpy_tree.specs.Trees as kind
use Rattle.mpy_tree.specs.Trees.{Kind}
use Rattle.mpy_tree.specs.Values.{same_bytes}
use Rattle.choice_tree.specs.Typing.{Scope, node_type}
use Rattle.choice_tree.specs.WeightedTrees.{Weighted, Weighteds, Others, plainly, pick, no_weighted, weighted_and, no_others, other_and}
use Rattle.sym_nodes.specs.Members.{common_type}
use Rattle.sym_nodes.specs.Plain.{other_types, type_of, types_of, where_all}

call_alike : (S R : Slots) (l : Option Ty) (b : Option Builtin) (g d : Option Callee) (os : List (Option Ty))
    → called_type S b g os ≡ called_type R b d os → call_type S l b g os ≡ call_type R l b d os
call_alike S R None b g d os e = e
call_alike S R (Some t) b g d os e = refl

-- a node has one type in two scopes where locals have, and the call that it may be
pub node_alike : (σ τ : Scope) (k : Kind) (os : List (Option Ty))
    → ((x : List ℕ) → σ.slots σ.number (slot.Local x) ≡ τ.slots τ.number (slot.Local x))
    → ((f : List ℕ) → k ≡ kind.Call f → called_type σ.slots (builtin_of f) (called σ.program f) os ≡ called_type τ.slots (builtin_of f) (called τ.program f) os)
    → node_type σ k os ≡ node_type τ k os
node_alike σ τ (kind.Name x) os h c = h x
node_alike σ τ (kind.Call f) os h c =
    ap (λ (l : Option Ty). call_type σ.slots l (builtin_of f) (called σ.program f) os) (h f)
    ∙ call_alike σ.slots τ.slots (τ.slots τ.number (slot.Local f)) (builtin_of f) (called σ.program f) (called τ.program f) os (c f refl)
node_alike σ τ k os h c = refl

-- and so has a tree where each node has
module _ (σ τ : Scope) (h : (k : Kind) (os : List (Option Ty)) → node_type σ k os ≡ node_type τ k os) where
  mutual
    pub tree_alike : (w : Weighted) → type_of σ w ≡ type_of τ w
    tree_alike (plainly k ws) =
        (λ i. where_all (trees_alike ws i) (node_type σ k (trees_alike ws i)))
        ∙ ap (where_all (types_of τ ws)) (h k (types_of τ ws))
    tree_alike (pick number base os) = λ i. common_type (tree_alike base i ∷ others_alike os i)

    trees_alike : (ws : Weighteds) → types_of σ ws ≡ types_of τ ws
    trees_alike no_weighted = refl
    trees_alike (weighted_and w ws) = λ i. tree_alike w i ∷ trees_alike ws i

    others_alike : (os : Others) → other_types σ os ≡ other_types τ os
    others_alike no_others = refl
    others_alike (other_and rule cost w os) = λ i. tree_alike w i ∷ others_alike os i

-- functions whose slots have one type are called alike
module _ (S R : Slots) where
  params_alike : (j : ℕ) (xs : List (List ℕ)) (os : List (Option Ty)) → ((x : Slot) → S j x ≡ R j x)
      → are_arguments S j xs os ≡ are_arguments R j xs os
  params_alike j [] [] h = refl
  params_alike j [] (o ∷ os) h = refl
  params_alike j (x ∷ xs) [] h = refl
  params_alike j (x ∷ xs) (o ∷ os) h = λ i. is_argument (h (slot.Local x) i) o && params_alike j xs os h i

  -- the first of functions, or one of the others
  first_alike : (b : Bool) (g : Callee) (d : Option Callee) (os : List (Option Ty)) → are_arguments S g.number g.routine.params os ≡ are_arguments R g.number g.routine.params os
      → S g.number slot.Result ≡ R g.number slot.Result → callee_type S d os ≡ callee_type R d os
      → callee_type S (if b then Some g else d) os ≡ callee_type R (if b then Some g else d) os
  first_alike true g d os params result rest = λ i. if params i then result i else None
  first_alike false g d os params result rest = rest

  -- functions of which the first has a number
  from_alike : (p : List Routine) (f : List ℕ) (n : ℕ) (os : List (Option Ty))
      → ((i : ℕ) (x : Slot) → i < n + length p → S i x ≡ R i x)
      → callee_type S (called_from p f n) os ≡ callee_type R (called_from p f n) os
  from_alike [] f n os h = refl
  from_alike (r ∷ rs) f n os h =
      first_alike (same_bytes f r.name) (callee n r) (called_from rs f (n + 1)) os (params_alike n r.params os (λ x. h n x (omega arith))) (h n slot.Result (omega arith))
      (from_alike rs f (n + 1) os (λ i x e. h i x (omega arith)))

  pub callees_alike : (p : List Routine) (f : List ℕ) (os : List (Option Ty))
      → ((i : ℕ) (x : Slot) → i < length p → S i x ≡ R i x)
      → callee_type S (called p f) os ≡ callee_type R (called p f) os
  callees_alike p f os h = from_alike p f 0 os (λ i x e. h i x (omega arith))
