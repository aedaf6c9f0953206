-- The cost of a pick, member by member.
use Rattle.std.proofs.Common.{◌≡◌, ◌∙◌, ℕ, zero, suc, ◌+◌, Bool, true, false, cond, eqb, List, []}
use Rattle.std.proofs.Common.{◌∷◌, take, length, Some, option_map, slice_get, refl, sym, ap, subst}
use Rattle.std.proofs.Common.{arith}
use Rattle.std.proofs.lemmas.Bool.Decides.{nat_tests}
use Rattle.choice_tree.specs.declared.node.Pick.{Pick}
use Rattle.choice_tree.specs.WeightedTrees.{Weighted, Weighteds, plainly, pick, no_weighted}
use Rattle.choice_tree.specs.WeightedTrees.{weighted_and, children, listed, nodes, nodes_in_others}
use Rattle.choice_tree.specs.WeightedTrees.{picks_in}
use Rattle.choice_tree.specs.WeightedViews.{Member, members}
use Rattle.choice_tree.specs.Selections.{cost, other_costs, chosen}
use Rattle.choice_tree.specs.NodeViews.{own_pick, pick_of}
use Rattle.sym_nodes.specs.Environments.{OthersHavePicks, HasPicks}
use Rattle.sym_cost.specs.declared.notation.Notation.{Notation}
use Rattle.sym_cost.specs.Notations.{HasRoom, Spells}
use Rattle.sym_cost.specs.Picked.{HasNoPick, tree_of_pick}
use Rattle.std.specs.Option.{unwrap_or}

-- a node that is a pick
pub pick_is : (w : Weighted) (p : Pick) → Some (pick_of p) ≡ own_pick w → w ≡ tree_of_pick p
pick_is (plainly k ws) p h = cc
pick_is (pick number base os) p h =
    let same : pick_of p ≡ record { number = number; base = base; others = os } = cc in
    sym (ap (λ q. pick q.number q.base q.others) same)

pub pick_nodes : (p : Pick)
    → nodes (tree_of_pick p) ≡ suc (nodes (pick_of p).base + nodes_in_others (pick_of p).others)
pick_nodes p = refl

-- the costs of the members besides the base
abbrev pub member_costs : (ℕ → ℕ) → List Member → List ℕ
member_costs m os = other_costs m (members os)

pub length_costs : (m : ℕ → ℕ) (os : List Member) → length (member_costs m os) ≡ length os
length_costs m [] = refl
length_costs m (o ∷ os) = ap suc (length_costs m os)

pub cost_at : (m : ℕ → ℕ) (os : List Member) (i c : ℕ) (x : Weighted)
    → Some c ≡ option_map (λ o. o.cost) (slice_get os i)
    → Some x ≡ option_map (λ o. o.tree) (slice_get os i)
    → slice_get (member_costs m os) i ≡ Some (c + cost m x)
cost_at m [] i c x h k = absurd cc
cost_at m (o ∷ os) zero c x h k =
    let a : o.cost ≡ c = cc in
    let b : o.tree ≡ x = cc in
    (λ i. Some (a i + cost m (b i)))
cost_at m (o ∷ os) (suc i) c x h k = cost_at m os i c x h k

-- the member that is chosen, of one more
got_more : (xs : List ℕ) (i k x base : ℕ) → slice_get xs i ≡ Some x
    → unwrap_or (slice_get (take (suc i) xs) k) base ≡ cond (eqb k i) x (unwrap_or (slice_get (take
    i xs) k) base)
got_more [] i k x base e = absurd cc
got_more (y ∷ xs) zero zero x base e = let same : y ≡ x = cc in same
got_more (y ∷ xs) zero (suc k) x base e =
    let t : eqb (suc k) 0 ≡ false = grind (arith, nat_tests) in ap (λ (b : Bool). cond b x base)
    (sym t)
got_more (y ∷ xs) (suc i) zero x base e =
    let t : eqb 0 (suc i) ≡ false = grind (arith, nat_tests) in ap (λ (b : Bool). cond b x y) (sym
    t)
got_more (y ∷ xs) (suc i) (suc k) x base e =
    let t : eqb k i ≡ eqb (suc k) (suc i) = grind (arith, nat_tests) in
    got_more xs i k x base e ∙ ap (λ (b : Bool). cond b x (unwrap_or (slice_get (take i xs) k)
    base)) t

pub chosen_more : (xs : List ℕ) (i j k x base : ℕ) → j ≡ suc i → slice_get xs i ≡ Some x
    → chosen k base (take j xs) ≡ cond (eqb k j) x (chosen k base (take i xs))
chosen_more xs i j zero x base n e =
    let t : eqb 0 j ≡ false = grind (arith, nat_tests) in ap (λ (b : Bool). cond b x base) (sym t)
chosen_more xs i j (suc k) x base n e =
    let t : eqb k i ≡ eqb (suc k) j = grind (arith, nat_tests) in
    ap (λ (l : ℕ). unwrap_or (slice_get (take l xs) k) base) n ∙ got_more xs i k x base e
    ∙ ap (λ (b : Bool). cond b x (unwrap_or (slice_get (take i xs) k) base)) t

pub none_chosen : (k base : ℕ) (xs : List ℕ) → chosen k base (take 0 xs) ≡ base
none_chosen zero base xs = refl
none_chosen (suc k) base xs = refl

pub all_taken : (xs : List ℕ) (n : ℕ) → length xs ≡ n → take n xs ≡ xs
all_taken [] zero e = refl
all_taken [] (suc n) e = absurd (omega arith)
all_taken (x ∷ xs) zero e = absurd (omega arith)
all_taken (x ∷ xs) (suc n) e = ap (λ ys. x ∷ ys) (all_taken xs n (omega arith))

-- bits that are one cost or another
pub chosen_spelled : (form : Notation) (t : Bool) (bits first second : List Bool) (whole a b : ℕ)
    → whole ≡ cond t a b → HasRoom form whole → bits ≡ cond t first second
    → (HasRoom form a → Spells form first a) → (HasRoom form b → Spells form second b)
    → Spells form bits whole
chosen_spelled form true bits first second whole a b e room f g h =
    subst (Spells form bits) (sym e) (subst (λ (v : List Bool). Spells form v a) (sym f) (g (subst
    (HasRoom form) e room)))
chosen_spelled form false bits first second whole a b e room f g h =
    subst (Spells form bits) (sym e) (subst (λ (v : List Bool). Spells form v b) (sym f) (h (subst
    (HasRoom form) e room)))

-- a member besides the base: its picks
pub other_picks : {B : Type 0} (picks : List (List B)) (os : List Member) (i : ℕ) (x : Weighted)
    → OthersHavePicks picks (members os) → Some x ≡ option_map (λ o. o.tree) (slice_get os i)
    → HasPicks picks x
other_picks picks [] i x h e = absurd cc
other_picks picks (o ∷ os) zero x h e =
    let same : o.tree ≡ x = cc in
    subst (HasPicks picks) same h.0
other_picks picks (o ∷ os) (suc i) x h e = other_picks picks os i x h.1 e

-- a tree without picks
part_free : (ws : Weighteds) (x : Weighted) (i : ℕ) → picks_in ws ≡ 0
    → Some x ≡ slice_get (listed ws) i → HasNoPick x
part_free no_weighted x i h e = absurd cc
part_free (weighted_and w ws) x zero h e = let same : x ≡ w = cc in rw same (omega arith)
part_free (weighted_and w ws) x (suc i) h e = part_free ws x i (omega arith) e

pub child_free : (w x : Weighted) (i : ℕ) → HasNoPick w → Some x ≡ slice_get (children w) i
    → HasNoPick x
child_free (plainly k ws) x i h e = part_free ws x i h e
child_free (pick number base os) x i h e = absurd (omega arith)

pub pick_free : (w : Weighted) (p : Pick) → Some (pick_of p) ≡ own_pick w → HasNoPick w → ⊥
pick_free (plainly k ws) p e h = cc
pick_free (pick number base os) p e h = omega arith
