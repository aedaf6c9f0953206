-- What follows of a task's size: a small greatest cost.
use Rattle.std.proofs.Common.{◌≤◌, inl, inr}
use Rattle.std.proofs.lemmas.Bool.{cases_lt}
use Rattle.choice_tree.specs.Selections.{most_cost}
use Rattle.input_space.specs.Tasks.{IsSound, Task, tree_of}

pub small_cost : (k : Task) → IsSound k → most_cost (tree_of k) ≤ 4096
small_cost k sound = elim (cases_lt 4096 (most_cost (tree_of k))) [
  | inl many ↦ absurd (sound.small (inr (inr (record { many = many }))))
  | inr few ↦ few
]
