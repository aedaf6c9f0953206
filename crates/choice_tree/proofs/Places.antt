-- The element at a place of a list of trees.
use Rattle.std.proofs.Common.{◌≡◌, ℕ, zero, suc, ◌-◌, ◌<◌, ◌≤◌, List, [], ◌∷◌, map, length}
use Rattle.std.proofs.Common.{get_or, slice_get, Option, Some, None, option_map, sym, ap, ◌∙◌, arith}
use Rattle.choice_tree.specs.declared.tree.Other.{Other}
use Rattle.choice_tree.specs.WeightedTrees.{Weighted, Weighteds, listed, other_trees}
use Rattle.choice_tree.specs.WeightedViews.{weighted_of, weighteds, members, member_seen}
use Rattle.choice_tree.specs.StatementViews.{arms_before}
use Rattle.choice_tree.proofs.Opening.{member_is, tree_of_member}

pub listed_at : {X : Type 0} (f : X → Weighted) (xs : List X) (i : ℕ) (o : Option X)
    → o ≡ slice_get xs i → option_map f o ≡ slice_get (listed (weighteds (map f xs))) i
listed_at f [] i o h = ap (option_map f) h
listed_at f (x ∷ xs) zero o h = ap (option_map f) h
listed_at f (x ∷ xs) (suc i) o h = listed_at f xs i o h

pub tree_at : (xs : List Other) (i : ℕ) (o : Option Other) → o ≡ slice_get xs i
    → option_map (λ x. weighted_of x.tree) o
    ≡ slice_get (other_trees (members (map member_seen xs))) i
tree_at [] i o h = ap (option_map (λ x. weighted_of x.tree)) h
tree_at (x ∷ xs) zero o h =
    ap (option_map (λ x. weighted_of x.tree)) h ∙ ap Some (sym (tree_of_member x))
tree_at (x ∷ xs) (suc i) o h = tree_at xs i o h

-- a member of a pick, as it is seen
pub seen_at : (xs : List Other) (i : ℕ) (d : Other) → i < length (map member_seen xs)
    → Some (record {
      rule = (get_or xs i d).rule;
      cost = (get_or xs i d).cost;
      tree = weighted_of (get_or xs i d).tree;
    }) ≡ slice_get (map member_seen xs) i
seen_at [] i d h = absurd (omega arith)
seen_at (x ∷ xs) zero d h = ap Some (sym (member_is x))
seen_at (x ∷ xs) (suc i) d h = seen_at xs i d (omega arith)

-- an arm, and what stands behind the arms
pub arm_there : {X : Type 0} (f : X → Weighted) (xs : List X) (ws : Weighteds) (i : ℕ) (x : X)
    → Some x ≡ slice_get xs i → Some (f x) ≡ slice_get (listed (arms_before (map f xs) ws)) i
arm_there f [] ws i x h = cc
arm_there f (y ∷ xs) ws zero x h = ap (option_map f) h
arm_there f (y ∷ xs) ws (suc i) x h = arm_there f xs ws i x h

pub behind_arms : {X : Type 0} (f : X → Weighted) (xs : List X) (ws : Weighteds) (i : ℕ)
    → None ≡ slice_get xs i
    → slice_get (listed ws) (i - length xs) ≡ slice_get (listed (arms_before (map f xs) ws)) i
behind_arms f [] ws i h = ap (slice_get (listed ws)) (omega arith)
behind_arms f (y ∷ xs) ws zero h = cc
behind_arms f (y ∷ xs) ws (suc i) h =
    let e : suc i - suc (length xs) ≡ i - length xs = omega arith in
    ap (slice_get (listed ws)) e ∙ behind_arms f xs ws i h

pub not_there : {X : Type 0} (xs : List X) (i : ℕ) → None ≡ slice_get xs i → length xs ≤ i
not_there [] i h = omega arith
not_there (y ∷ xs) zero h = cc
not_there (y ∷ xs) (suc i) h = let r = not_there xs i h in omega arith
