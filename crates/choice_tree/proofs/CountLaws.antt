-- The number of choices, stopped at 10^12, from those of the children.
use Rattle.std.proofs.Common.{◌≡◌, ℕ, zero, suc, ◌+◌, ◌*◌, ◌≤◌, List, [], ◌∷◌, drop}
use Rattle.std.proofs.Common.{length, slice_get, Some, None, refl, sym, ap, ◌∙◌, arith, ◌⊎◌, inl}
use Rattle.std.proofs.Common.{inr}
use Rattle.std.proofs.Math.Nat.{mul_assoc, mul_comm, mul-one, one-mul, one-le-mul}
use Rattle.choice_tree.specs.declared.node.Pick.{Pick}
use Rattle.choice_tree.specs.WeightedTrees.{Weighted, Weighteds, Others, plainly, pick, no_weighted}
use Rattle.choice_tree.specs.WeightedTrees.{weighted_and, no_others, other_and, children, listed}
use Rattle.choice_tree.specs.WeightedTrees.{other_trees}
use Rattle.choice_tree.specs.WeightedViews.{members}
use Rattle.choice_tree.specs.Selections.{choices, choices_in, choices_in_others, count_others}
use Rattle.choice_tree.specs.Selections.{stopped}
use Rattle.choice_tree.specs.Costs.{product_of}
use Rattle.choice_tree.specs.NodeViews.{own_pick, pick_of}
use Rattle.choice_tree.specs.PickViews.{others_seen}
use Rattle.choice_tree.proofs.Walking.{next_of}
use Rattle.choice_tree.proofs.FittingLaws.{counted}

-- a product isn't less than either factor, where the other one isn't 0
grows : (p r : ℕ) → 1 ≤ r → p ≤ p * r
grows p zero h = absurd (omega arith)
grows zero (suc r) h = omega arith
grows (suc p) (suc r) h =
    let e : suc p * suc r ≡ suc p * r + suc p = Rattle.std.proofs.Math.Nat.mul-suc (suc p) r in
    omega (arith, e)

stop_left : (p r : ℕ) → 1 ≤ r → stopped (stopped p * r) ≡ stopped (p * r)
stop_left p r h = by_size p r h (order p 1000000000000)
  where
    order : (a b : ℕ) → (a ≤ b) ⊎ (b ≤ a)
    order zero b = inl (omega arith)
    order (suc a) zero = inr (omega arith)
    order (suc a) (suc b) = elim (order a b) [
      | inl below ↦ inl (omega arith)
      | inr above ↦ inr (omega arith)
    ]

    by_size : (p r : ℕ) → 1 ≤ r → (p ≤ 1000000000000) ⊎ (1000000000000 ≤ p)
        → stopped (stopped p * r) ≡ stopped (p * r)
    by_size p r h (inl below) = let e : stopped p ≡ p = omega arith in rw e refl
    by_size p r h (inr above) =
        let e : stopped p ≡ 1000000000000 = omega arith in
        let a = grows 1000000000000 r h in
        let b = grows p r h in
        rw e (omega (arith, a, b))

pub stop_step : (a b r : ℕ) → 1 ≤ a → 1 ≤ r
    → stopped (stopped (a * stopped b) * r) ≡ stopped (a * (b * r))
stop_step a b r one some =
    let first = stop_left (a * stopped b) r some in
    let swap : (a * stopped b) * r ≡ stopped b * (a * r) =
    ap (λ n. n * r) (mul_comm a (stopped b)) ∙ mul_assoc (stopped b) a r in
    let second = stop_left b (a * r) (one-le-mul one some) in
    let back : b * (a * r) ≡ a * (b * r) =
    sym (mul_assoc b a r) ∙ ap (λ n. n * r) (mul_comm b a) ∙ mul_assoc a b r in
    first ∙ ap stopped swap ∙ second ∙ ap stopped back

mutual
  pub some_choices : (w : Weighted) → 1 ≤ choices w
  some_choices (plainly k ws) = some_in ws
  some_choices (pick number base os) =
      one-le-mul (omega arith) (one-le-mul (some_choices base) (some_in_others os))

  some_in : (ws : Weighteds) → 1 ≤ choices_in ws
  some_in no_weighted = omega arith
  some_in (weighted_and w ws) = one-le-mul (some_choices w) (some_in ws)

  some_in_others : (os : Others) → 1 ≤ choices_in_others os
  some_in_others no_others = omega arith
  some_in_others (other_and rule cost w os) = one-le-mul (some_choices w) (some_in_others os)

pub some_product : (ws : List Weighted) → 1 ≤ product_of choices ws
some_product [] = omega arith
some_product (w ∷ ws) = one-le-mul (some_choices w) (some_product ws)

in_parts : (ws : Weighteds) → product_of choices (listed ws) ≡ choices_in ws
in_parts no_weighted = refl
in_parts (weighted_and w ws) = ap (λ n. choices w * n) (in_parts ws)

in_others : (os : Others) → product_of choices (other_trees os) ≡ choices_in_others os
in_others no_others = refl
in_others (other_and rule cost w os) = ap (λ n. choices w * n) (in_others os)

pub parts_choices : (w : Weighted) → None ≡ own_pick w
    → 1 * product_of choices (children w) ≡ choices w
parts_choices (plainly k ws) h = one-mul (product_of choices (listed ws)) ∙ in_parts ws
parts_choices (pick number base os) h = cc

pub pick_choices : (w : Weighted) (q : Pick) → Some (pick_of q) ≡ own_pick w
    → stopped (stopped (suc (length (others_seen q))) * product_of choices (children w))
    ≡ stopped (choices w)
pick_choices (plainly k ws) q h = cc
pick_choices (pick number base os) q h =
    let same : pick_of q ≡ record { number = number; base = base; others = os } = cc in
    let a : members (others_seen q) ≡ os = ap (λ r. r.others) same in
    let c : length (others_seen q) ≡ count_others os =
    sym (counted (others_seen q)) ∙ ap count_others a in
    let ws = base ∷ other_trees os in
    stop_left (suc (length (others_seen q))) (product_of choices ws) (some_product ws)
    ∙ ap stopped (λ i. suc (c i) * (choices base * in_others os i))

pub next_choices : (a i j : ℕ) (xs : List Weighted) (x : Weighted) → 1 ≤ a → j ≡ suc i
    → Some x ≡ slice_get xs i
    → stopped (a * product_of choices (drop i xs))
    ≡ stopped (stopped (a * stopped (choices x)) * product_of choices (drop j xs))
next_choices a i j xs x one e h =
    rw (e, next_of xs i x h)
    (sym (stop_step a (choices x) (product_of choices (drop (suc i) xs)) one
    (some_product (drop (suc i) xs))))
