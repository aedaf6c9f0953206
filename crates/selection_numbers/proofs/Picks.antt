-- How many picks there are.
use Rattle.std.proofs.Common.{◌≤◌, length, arith}
use Rattle.choice_tree.specs.WeightedTrees.{Weighted, Weighteds, Others, plainly, pick, no_weighted}
use Rattle.choice_tree.specs.WeightedTrees.{weighted_and, no_others, other_and, picks, picks_in}
use Rattle.choice_tree.specs.WeightedTrees.{picks_in_others, size, sizes, other_sizes}
use Rattle.selection_numbers.specs.MemberCounts.{member_counts}
use Rattle.selection_numbers.proofs.Counting.{counts_of_picks}

-- each pick is a node
mutual
  picks_within : (w : Weighted) → picks w ≤ size w
  picks_within (plainly k ws) = let r = picks_within_parts ws in omega arith
  picks_within (pick number base os) =
      let a = picks_within base in let r = picks_within_others os in omega arith

  picks_within_parts : (ws : Weighteds) → picks_in ws ≤ sizes ws
  picks_within_parts no_weighted = omega arith
  picks_within_parts (weighted_and w ws) =
      let a = picks_within w in let r = picks_within_parts ws in omega arith

  picks_within_others : (os : Others) → picks_in_others os ≤ other_sizes os
  picks_within_others no_others = omega arith
  picks_within_others (other_and rule cost w os) =
      let a = picks_within w in let r = picks_within_others os in omega arith

pub few_counts : (w : Weighted) → length (member_counts w) ≤ size w
few_counts w = let e = counts_of_picks w in let h = picks_within w in omega arith
