-- Sums of costs, and products.
use Rattle.std.specs.Prelude.{ℕ, ◌+◌, ◌*◌, min, List, [], ◌∷◌}
use Rattle.choice_tree.specs.WeightedTrees.{Weighted, Weighteds, Others, plainly, pick, no_weighted}
use Rattle.choice_tree.specs.WeightedTrees.{weighted_and, no_others, other_and}

-- at most the greatest u32
abbrev pub capped : ℕ → ℕ
capped n = min n 4294967295

-- the sum over a list of trees
abbrev pub sum_of : (Weighted → ℕ) → List Weighted → ℕ
sum_of f [] = 0
sum_of f (w ∷ ws) = f w + sum_of f ws

-- and the product
abbrev pub product_of : (Weighted → ℕ) → List Weighted → ℕ
product_of f [] = 1
product_of f (w ∷ ws) = f w * product_of f ws

-- the costs of all members of a tree
abbrev mutual
  pub all_costs : Weighted → ℕ
  all_costs (plainly k ws) = all_costs_in ws
  all_costs (pick number base os) = all_costs base + all_other_costs os

  pub all_costs_in : Weighteds → ℕ
  all_costs_in no_weighted = 0
  all_costs_in (weighted_and w ws) = all_costs w + all_costs_in ws

  pub all_other_costs : Others → ℕ
  all_other_costs no_others = 0
  all_other_costs (other_and rule cost w os) = cost + all_costs w + all_other_costs os
