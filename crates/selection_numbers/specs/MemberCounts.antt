-- How many members the picks of a tree have.
use Rattle.std.specs.Prelude.{ℕ, suc, List, [], ◌∷◌, ◌++◌, flat_map}
use Rattle.choice_tree.specs.WeightedTrees.{Weighted, Weighteds, Others, plainly, pick, no_weighted}
use Rattle.choice_tree.specs.WeightedTrees.{weighted_and, no_others, other_and}
use Rattle.choice_tree.specs.Selections.{count_others}

-- The numbers of members of all picks, each with its base: of a pick before those in its base, and
-- these before those in its other members. So picks are numbered.
abbrev mutual
  pub member_counts : Weighted → List ℕ
  member_counts (plainly k ws) = counts_in ws
  member_counts (pick number base os) =
      suc (count_others os) ∷ (member_counts base ++ counts_in_others os)

  pub counts_in : Weighteds → List ℕ
  counts_in no_weighted = []
  counts_in (weighted_and w ws) = member_counts w ++ counts_in ws

  pub counts_in_others : Others → List ℕ
  counts_in_others no_others = []
  counts_in_others (other_and rule cost w os) = member_counts w ++ counts_in_others os

abbrev pub counts_of_each : List Weighted → List ℕ
counts_of_each ws = flat_map member_counts ws
