-- A walk over the children of a node.
use Rattle.std.proofs.Common.{◌≡◌, ℕ, zero, suc, ◌+◌, ◌<◌, ◌≤◌, List, [], ◌∷◌, drop, length}
use Rattle.std.proofs.Common.{slice_get}
use Rattle.std.proofs.Common.{Some, None, option_map, refl, ap, ◌∙◌, arith}
use Rattle.choice_tree.specs.WeightedTrees.{Weighted, Weighteds, Others, plainly, pick, no_weighted}
use Rattle.choice_tree.specs.WeightedTrees.{weighted_and, no_others, other_and, children, listed}
use Rattle.choice_tree.specs.WeightedTrees.{other_trees, nodes, nodes_in, nodes_in_others}
use Rattle.choice_tree.specs.Selections.{cost, costs}
use Rattle.choice_tree.specs.Costs.{sum_of}
use Rattle.choice_tree.specs.declared.node.Pick.{Pick}
use Rattle.choice_tree.specs.NodeViews.{own_pick, pick_of}
use Rattle.choice_tree.specs.PickViews.{others_seen}
use Rattle.choice_tree.specs.WeightedViews.{Member, members}

-- the child at a place, and those behind it
pub next_of : {X : Type 0} (xs : List X) (i : ℕ) (x : X) → Some x ≡ slice_get xs i
    → drop i xs ≡ x ∷ drop (suc i) xs
next_of [] i x h = cc
next_of (y ∷ xs) zero x h = let e : x ≡ y = cc in rw e refl
next_of (y ∷ xs) (suc i) x h = next_of xs i x h

pub sum_next : (f : Weighted → ℕ) (xs : List Weighted) (i j : ℕ) (x : Weighted)
    → j ≡ suc i → Some x ≡ slice_get xs i → sum_of f (drop i xs) ≡ f x + sum_of f (drop j xs)
sum_next f xs i j x e h = rw (e, next_of xs i x h) refl

pub no_next : {X : Type 0} (xs : List X) (i : ℕ) → None ≡ slice_get xs i → drop i xs ≡ []
no_next [] zero h = refl
no_next [] (suc i) h = refl
no_next (y ∷ xs) zero h = cc
no_next (y ∷ xs) (suc i) h = no_next xs i h

pub is_place : {X : Type 0} (xs : List X) (i : ℕ) (x : X) → Some x ≡ slice_get xs i
    → i < length xs
is_place [] i x h = cc
is_place (y ∷ xs) zero x h = omega arith
is_place (y ∷ xs) (suc i) x h = let r = is_place xs i x h in omega arith

-- a child has fewer nodes
part_smaller : (ws : Weighteds) (i : ℕ) (x : Weighted) → Some x ≡ slice_get (listed ws) i
    → nodes x ≤ nodes_in ws
part_smaller no_weighted i x h = cc
part_smaller (weighted_and w ws) zero x h = let e : x ≡ w = cc in rw e (omega arith)
part_smaller (weighted_and w ws) (suc i) x h = let r = part_smaller ws i x h in omega arith

tree_smaller : (os : Others) (i : ℕ) (x : Weighted) → Some x ≡ slice_get (other_trees os) i
    → nodes x ≤ nodes_in_others os
tree_smaller no_others i x h = cc
tree_smaller (other_and rule cost w os) zero x h = let e : x ≡ w = cc in rw e (omega arith)
tree_smaller (other_and rule cost w os) (suc i) x h = let r = tree_smaller os i x h in omega arith

pub child_smaller : (w x : Weighted) (i : ℕ) → Some x ≡ slice_get (children w) i
    → nodes x < nodes w
child_smaller (plainly k ws) x i h = let r = part_smaller ws i x h in omega arith
child_smaller (pick number base os) x zero h = let e : x ≡ base = cc in rw e (omega arith)
child_smaller (pick number base os) x (suc i) h = let r = tree_smaller os i x h in omega arith

-- what a walk over the parts of a node sums up
costs_sum : (m : ℕ → ℕ) (ws : Weighteds) → costs m ws ≡ sum_of (cost m) (listed ws)
costs_sum m no_weighted = refl
costs_sum m (weighted_and w ws) = ap (λ n. cost m w + n) (costs_sum m ws)

pub parts_cost : (m : ℕ → ℕ) (w : Weighted) → None ≡ own_pick w
    → cost m w ≡ sum_of (cost m) (children w)
parts_cost m (plainly k ws) h = costs_sum m ws
parts_cost m (pick number base os) h = cc

-- the base of a pick, and the tree of a member, are children
pub base_smaller : (w x : Weighted) (p : Pick) → Some (pick_of p) ≡ own_pick w
    → x ≡ (pick_of p).base → nodes x < nodes w
base_smaller (plainly k ws) x p h e = cc
base_smaller (pick number base os) x p h e =
    let same : pick_of p ≡ record { number = number; base = base; others = os } = cc in
    let b : x ≡ base = e ∙ ap (λ q. q.base) same in
    rw b (omega arith)

pub member_smaller : (ms : List Member) (i : ℕ) (x : Weighted)
    → Some x ≡ option_map (λ m. m.tree) (slice_get ms i) → nodes x ≤ nodes_in_others (members ms)
member_smaller [] i x h = cc
member_smaller (m ∷ ms) zero x h = let e : x ≡ m.tree = cc in rw e (omega arith)
member_smaller (m ∷ ms) (suc i) x h = let r = member_smaller ms i x h in omega arith

pub other_smaller : (w x : Weighted) (p : Pick) (i : ℕ) → Some (pick_of p) ≡ own_pick w
    → Some x ≡ option_map (λ m. m.tree) (slice_get (others_seen p) i) → nodes x < nodes w
other_smaller (plainly k ws) x p i h e = cc
other_smaller (pick number base os) x p i h e =
    let same : pick_of p ≡ record { number = number; base = base; others = os } = cc in
    let a : members (others_seen p) ≡ os = ap (λ q. q.others) same in
    let r = rw a at (member_smaller (others_seen p) i x e) in omega (arith, r)
