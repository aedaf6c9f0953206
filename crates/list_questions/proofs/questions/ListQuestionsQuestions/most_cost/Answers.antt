use Rattle.std.proofs.Common.{◌≤◌, ◌∙◌, ℕ, ap, subst, sym}
use Rattle.choice_tree.specs.Choices.{member_of}
use Rattle.choice_tree.specs.Selections.{cost, most_cost}
use Rattle.choice_tree.proofs.GreatestCost.{is_greatest}
use Rattle.input_space.specs.Tasks.{setting, tree_of}
use Rattle.list_questions.specs.Asking.{Asking, task_of}
use Rattle.list_questions.proofs.questions.ListQuestionsQuestions.most_cost.Goals as goal

pub returns-clause-value : goal.returns-clause-value
returns-clause-value c = c.self.invariant.last_is ∙ ap (λ (a : Asking). most_cost (tree_of (task_of a))) c.self.view_is

pub returns-clause-most : goal.returns-clause-most
returns-clause-most c = λ s fits.
    let k = task_of c.args.self.now in
    let value = c.self.invariant.last_is ∙ ap (λ (a : Asking). most_cost (tree_of (task_of a))) c.self.view_is in
    subst (λ (n : ℕ). cost (member_of s) (tree_of k) ≤ n) (sym value) ((is_greatest (setting k) k.submission).below s)
