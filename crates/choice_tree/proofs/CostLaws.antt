-- A selection costs no more than all members together.
use Rattle.std.proofs.Common.{◌≡◌, ℕ, zero, suc, ◌+◌, ◌<◌, ◌≤◌, List, [], ◌∷◌, ◌∙◌}
use Rattle.std.proofs.Common.{length, get_or, slice_get, Option, Some, None, option_map, refl, ap, sym}
use Rattle.std.proofs.Common.{arith}
use Rattle.choice_tree.specs.WeightedTrees.{Weighted, Weighteds, Others, plainly, pick, no_weighted}
use Rattle.choice_tree.specs.WeightedTrees.{weighted_and, no_others, other_and}
use Rattle.choice_tree.specs.WeightedViews.{Member, members}
use Rattle.choice_tree.specs.Selections.{cost, costs, other_costs, other_at, chosen}
use Rattle.choice_tree.specs.Costs.{all_costs, all_costs_in, all_other_costs}
use Rattle.choice_tree.specs.declared.node.Pick.{Pick}
use Rattle.choice_tree.specs.NodeViews.{own_pick, pick_of}
use Rattle.choice_tree.specs.PickViews.{others_seen}

pub chosen_within : (i base n : ℕ) (xs : List ℕ) (most : ℕ) → base ≤ most
    → ((k d : ℕ) → k < length xs → get_or xs k d ≤ most) → chosen i base xs ≤ most
chosen_within zero base n xs most h all = h
chosen_within (suc i) base n [] most h all = h
chosen_within (suc zero) base n (x ∷ xs) most h all = all 0 0 (omega arith)
chosen_within (suc (suc i)) base n (x ∷ xs) most h all =
    chosen_within (suc i) base n xs most h (λ k d below. all (suc k) d (omega arith))

mutual
  pub cost_within : (m : ℕ → ℕ) (w : Weighted) → cost m w ≤ all_costs w
  cost_within m (plainly k ws) = costs_within m ws
  cost_within m (pick number base os) =
      let b = cost_within m base in
      chosen_within (m number) (cost m base) 0 (other_costs m os)
      (all_costs base + all_other_costs os) (omega arith)
      (λ k d below. let one = other_within m os k d below in omega arith)

  costs_within : (m : ℕ → ℕ) (ws : Weighteds) → costs m ws ≤ all_costs_in ws
  costs_within m no_weighted = omega arith
  costs_within m (weighted_and w ws) = let a = cost_within m w in let b = costs_within m ws in
      omega arith

  other_within : (m : ℕ → ℕ) (os : Others) (k d : ℕ) → k < length (other_costs m os)
      → get_or (other_costs m os) k d ≤ all_other_costs os
  other_within m no_others k d below = absurd (omega arith)
  other_within m (other_and rule c w os) zero d below = let a = cost_within m w in omega arith
  other_within m (other_and rule c w os) (suc k) d below = let a =
      other_within m os k d (omega arith) in omega arith

-- the cost of a pick, by the member that is chosen
abbrev pub cost_by : (ℕ → ℕ) → Weighted → Option Member → ℕ
cost_by m base None = cost m base
cost_by m base (Some o) = o.cost + cost m o.tree

chosen_in : (m : ℕ → ℕ) (base : Weighted) (ms : List Member) (i : ℕ) (o : Option Member)
    → o ≡ slice_get ms i
    → cost_by m base o ≡ chosen (suc i) (cost m base) (other_costs m (members ms))
chosen_in m base [] i o h = rw h refl
chosen_in m base (x ∷ ms) zero o h = rw h refl
chosen_in m base (x ∷ ms) (suc i) o h = chosen_in m base ms i o h

pub chosen_cost : (m : ℕ → ℕ) (base : Weighted) (ms : List Member) (k : ℕ) (o : Option Member)
    → o ≡ other_at k ms
    → cost_by m base o ≡ chosen k (cost m base) (other_costs m (members ms))
chosen_cost m base ms zero o h = rw h refl
chosen_cost m base ms (suc i) o h = chosen_in m base ms i o h

-- that of a member whose parts were read
pub cost_read : (m : ℕ → ℕ) (base : Weighted) (o : Option Member) (c : ℕ) (x : Weighted)
    → Some c ≡ option_map (λ y. y.cost) o → Some x ≡ option_map (λ y. y.tree) o
    → cost_by m base o ≡ c + cost m x
cost_read m base None c x h k = cc
cost_read m base (Some y) c x h k =
    let a : c ≡ y.cost = cc in
    let b : x ≡ y.tree = cc in
    rw (a, b) refl

-- the cost of a node that is a pick
pub pick_cost : (m : ℕ → ℕ) (w : Weighted) (p : Pick) (o : Option Member)
    → Some (pick_of p) ≡ own_pick w → o ≡ other_at (m (pick_of p).number) (others_seen p)
    → cost m w ≡ cost_by m (pick_of p).base o
pick_cost m (plainly k ws) p o h e = cc
pick_cost m (pick number base os) p o h e =
    let same : pick_of p ≡ record { number = number; base = base; others = os } = cc in
    ap (λ q. chosen (m q.number) (cost m q.base) (other_costs m q.others)) (sym same)
    ∙ sym (chosen_cost m (pick_of p).base (others_seen p) (m (pick_of p).number) o e)
