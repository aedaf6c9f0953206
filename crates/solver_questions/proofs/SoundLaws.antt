-- What follows of a task's size: small costs.
use Rattle.std.proofs.Common.{◌⊎◌, ℕ, ◌<◌, ◌≤◌, ◌^◌, List, inl, inr, arith}
use Rattle.std.specs.Prelude.{All}
use Rattle.std.proofs.lemmas.Bool.{cases_lt}
use Rattle.choice_tree.specs.Costs.{all_costs}
use Rattle.choice_tree.specs.Templates.{Correction}
use Rattle.choice_tree.specs.WeightedTrees.{size}
use Rattle.eml_faults.specs.FaultLaws.{IsSmall}
use Rattle.eml_faults.proofs.Faultless.{small_kept}
use Rattle.eml_rewrite.proofs.SmallCosts.{program_cheap}
use Rattle.input_space.specs.Tasks.{IsSound, Task, setting, tree_of}

cases_le : (n most : ℕ) → (n ≤ most) ⊎ (most < n)
cases_le n most = elim (cases_lt most n) [ inl high ↦ inr high | inr low ↦ inl low ]

few_nodes : (k : Task) → IsSound k → size (tree_of k) ≤ 1000000
few_nodes k sound = elim (cases_le (size (tree_of k)) 1000000) [
  | inl few ↦ few
  | inr many ↦ absurd (sound.small (inl (record { many = many })))
]

cheap_rules : (rs : List Correction) → All IsSmall rs → All (λ r. r.cost ≤ 9) rs
cheap_rules rs small = λ i d within. (small i d within).cost_to

pub small_costs : (k : Task) → IsSound k → all_costs (tree_of k) < 2 ^ 32
small_costs k sound =
    let small = small_kept k.rules sound.no_limit_fault in
    let cheap = program_cheap 9 (setting k) k.submission (cheap_rules k.rules small.1) in
    let nodes = few_nodes k sound in
    omega (arith, cheap, nodes)
