use Rattle.std.proofs.Common.{◌<◌, ◌≤◌, ◌^◌, ◌∙◌, ℕ, ap, subst, sym}
use Rattle.choice_tree.specs.Choices.{member_of}
use Rattle.choice_tree.specs.Costs.{all_costs}
use Rattle.choice_tree.specs.Selections.{cost, most_cost}
use Rattle.choice_tree.specs.WeightedTrees.{Weighted}
use Rattle.choice_tree.proofs.GreatestCost.{is_greatest}
use Rattle.input_space.specs.TaskParts.{task_with}
use Rattle.input_space.specs.Tasks.{setting, tree_of}
use Rattle.solver_questions.specs.Asking.{Asking, task_of}
use Rattle.solver_questions.proofs.SoundLaws.{small_costs}
use Rattle.solver_questions.proofs.questions.SolverQuestionsQuestions.most_cost.Goals as goal

pub most_cost-requires : goal.most_cost-requires
most_cost-requires c =
    subst (λ (w : Weighted). all_costs w < 2 ^ 32) (sym c.tree.ensures)
    (small_costs (task_with c.self.inside.task.now) c.is_sound.ensures)

pub returns-clause-value : goal.returns-clause-value
returns-clause-value c =
    c.most_cost.ensures ∙ ap most_cost c.tree.ensures
    ∙ ap (λ (a : Asking). most_cost (tree_of (task_of a))) c.self.view_is

pub returns-clause-most : goal.returns-clause-most
returns-clause-most c = λ s fits.
    let k = task_of c.args.self.now in
    let value = c.most_cost.ensures ∙ ap most_cost c.tree.ensures
    ∙ ap (λ (a : Asking). most_cost (tree_of (task_of a))) c.self.view_is in
    subst (λ (n : ℕ). cost (member_of s) (tree_of k) ≤ n) (sym value)
    ((is_greatest (setting k) k.submission).below s)
