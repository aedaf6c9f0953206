-- The greatest cost, from those of the children.
use Rattle.std.proofs.Common.{◌≡◌, ℕ, zero, suc, ◌+◌, ◌≤◌, max, List, [], ◌∷◌, drop, slice_get}
use Rattle.std.proofs.Common.{Some, None, option_map, refl, sym, ap, arith}
use Rattle.choice_tree.specs.declared.node.Pick.{Pick}
use Rattle.choice_tree.specs.WeightedTrees.{Weighted, Weighteds, plainly, pick, no_weighted}
use Rattle.choice_tree.specs.WeightedTrees.{weighted_and, children, listed, nodes, nodes_in_others}
use Rattle.choice_tree.specs.WeightedViews.{Member, members}
use Rattle.choice_tree.specs.Selections.{most_cost, most_costs, other_most_cost}
use Rattle.choice_tree.specs.Costs.{sum_of, all_costs, all_costs_in, all_other_costs}
use Rattle.choice_tree.specs.WeightedTrees.{Others, no_others, other_and}
use Rattle.choice_tree.specs.NodeViews.{own_pick, pick_of}

most_sum : (ws : Weighteds) → most_costs ws ≡ sum_of most_cost (listed ws)
most_sum no_weighted = refl
most_sum (weighted_and w ws) = ap (λ n. most_cost w + n) (most_sum ws)

pub most_of_parts : (w : Weighted) → None ≡ own_pick w
    → most_cost w ≡ sum_of most_cost (children w)
most_of_parts (plainly k ws) h = most_sum ws
most_of_parts (pick number base os) h = cc

pub most_of_pick : (w : Weighted) (p : Pick) → Some (pick_of p) ≡ own_pick w
    → most_cost w ≡ max (most_cost (pick_of p).base) (other_most_cost (pick_of p).others)
most_of_pick (plainly k ws) p h = cc
most_of_pick (pick number base os) p h =
    let same : pick_of p ≡ record { number = number; base = base; others = os } = cc in
    ap (λ q. max (most_cost q.base) (other_most_cost q.others)) (sym same)

-- a pick has more nodes than its base and its other members
pub inside_pick : (w : Weighted) (p : Pick) → Some (pick_of p) ≡ own_pick w
    → nodes w ≡ suc (nodes (pick_of p).base + nodes_in_others (pick_of p).others)
inside_pick (plainly k ws) p h = cc
inside_pick (pick number base os) p h =
    let same : pick_of p ≡ record { number = number; base = base; others = os } = cc in
    ap (λ q. suc (nodes q.base + nodes_in_others q.others)) (sym same)

-- the member at a place, and those behind it
pub most_next : (ms : List Member) (i j c : ℕ) (x : Weighted) → j ≡ suc i
    → Some c ≡ option_map (λ m. m.cost) (slice_get ms i)
    → Some x ≡ option_map (λ m. m.tree) (slice_get ms i)
    → other_most_cost (members (drop i ms))
    ≡ max (c + most_cost x) (other_most_cost (members (drop j ms)))
most_next [] i j c x e h k = cc
most_next (m ∷ ms) zero j c x e h k =
    let a : c ≡ m.cost = cc in
    let b : x ≡ m.tree = cc in
    rw (e, a, b) refl
most_next (m ∷ ms) (suc i) j c x e h k = rw e (most_next ms i (suc i) c x refl h k)

mutual
  pub most_within : (w : Weighted) → most_cost w ≤ all_costs w
  most_within (plainly k ws) = mosts_within ws
  most_within (pick number base os) =
      let b = most_within base in let o = other_most_within os in omega arith

  mosts_within : (ws : Weighteds) → most_costs ws ≤ all_costs_in ws
  mosts_within no_weighted = omega arith
  mosts_within (weighted_and w ws) =
      let a = most_within w in let b = mosts_within ws in omega arith

  other_most_within : (os : Others) → other_most_cost os ≤ all_other_costs os
  other_most_within no_others = omega arith
  other_most_within (other_and rule c w os) =
      let a = most_within w in let b = other_most_within os in omega arith
