-- The weighted tree of a task's submission, its costs and its weight.
use Rattle.std.proofs.Common.{◌≡◌, ◌↔◌, ◌+◌, ◌<◌, ◌≤◌, ◌^◌, ℕ, List, Result, arith, inl, inr, min}
use Rattle.std.proofs.Common.{subst}
use Rattle.std.proofs.Math.Nat.{le-min, min-le_left}
use Rattle.std.proofs.lemmas.Bool.{cases_lt}
use Rattle.std.specs.Prelude.{All}
use Rattle.mpy_tree.specs.declared.typing.Fact.{Fact}
use Rattle.mpy_tree.specs.Typings.{set_of}
use Rattle.mpy_tree.specs.View.{routines_of}
use Rattle.choice_tree.specs.declared.tree.WProg.{WProg}
use Rattle.choice_tree.specs.Costs.{all_costs}
use Rattle.choice_tree.specs.Growing.{weighted_program}
use Rattle.choice_tree.specs.StatementViews.{weighted_prog}
use Rattle.choice_tree.specs.Templates.{Correction}
use Rattle.choice_tree.specs.WeightedTrees.{Weighted, size}
use Rattle.eml_faults.specs.FaultLaws.{IsSmall}
use Rattle.eml_faults.proofs.Faultless.{small_kept}
use Rattle.eml_rewrite.proofs.SmallCosts.{program_cheap}
use Rattle.eml_rewrite.specs.declared.error.RewriteError.{RewriteError}
use Rattle.eml_rewrite.specs.Programs.{IsRewritten, setting_of}
use Rattle.input_space.specs.declared.task.TaskParts.{TaskParts}
use Rattle.input_space.specs.TaskParts.{task_with}
use Rattle.input_space.specs.Tasks.{Task, setting, tree_of}
use Rattle.task_read.specs.TaskSteps.{AreReady}

-- what is rewritten with the facts of the submission is the tree of the task
pub rewritten : (p : TaskParts) (facts : List Fact) (r : Result WProg RewriteError) → facts ≡ p.submission_types.facts
    → IsRewritten r (weighted_program (setting_of (set_of facts) p.rules p.submission.funcs.items.items) (routines_of p.submission)) → IsRewritten r (tree_of (task_with p))
rewritten p facts r same built =
    subst (λ (F : List Fact). IsRewritten r (weighted_program (setting_of (set_of F) p.rules p.submission.funcs.items.items) (routines_of p.submission))) same built

pub of_size : (w : WProg) (t : Weighted) → weighted_prog w ≡ t → size (weighted_prog w) ≤ 1000000 → size t ≤ 1000000
of_size w t is small = subst (λ (u : Weighted). size u ≤ 1000000) is small

cheap_rules : (rs : List Correction) → All IsSmall rs → All (λ r. r.cost ≤ 9) rs
cheap_rules rs small = λ i d within. (small i d within).cost_to

pub small_costs : (k : Task) → AreReady k → size (tree_of k) ≤ 1000000 → all_costs (tree_of k) < 2 ^ 32
small_costs k ready nodes =
    let small = small_kept k.rules ready.no_limit_fault in
    let cheap = program_cheap 9 (setting k) k.submission (cheap_rules k.rules small.1) in
    omega (arith, cheap, nodes)

-- two weights, each no further than to one more than the greatest
at_least : (a b : ℕ) → 1000000 < a + b → 1000000 < min a 1000001 + min b 1000001
at_least a b more = elim (cases_lt 1000000 a) [
  | inl first ↦ (
      let m : 1000001 ≤ min a 1000001 = le-min (omega (arith, first)) (omega arith) in
      omega (arith, m))
  | inr low ↦ elim (cases_lt 1000000 b) [
    | inl second ↦ (
        let n : 1000001 ≤ min b 1000001 = le-min (omega (arith, second)) (omega arith) in
        omega (arith, n))
    | inr other ↦ (
        let m : a ≤ min a 1000001 = le-min (omega arith) (omega (arith, low)) in
        let n : b ≤ min b 1000001 = le-min (omega arith) (omega (arith, other)) in
        omega (arith, m, n, more))
  ]
]

pub weights_over : (a b m n : ℕ) → m ≡ min a 1000001 → n ≡ min b 1000001
    → (1000000 < m + n) ↔ (1000000 < a + b)
weights_over a b m n am bn =
    let less = min-le_left a 1000001 in
    let least = min-le_left b 1000001 in
    ((λ over. omega (arith, less, least, over, am, bn)), λ more. rw (am, bn) (at_least a b more))
