use Rattle.std.proofs.Common.{◌<◌, ◌^◌, ◌∙◌, ap, subst, sym}
use Rattle.choice_tree.specs.Choices.{member_of}
use Rattle.choice_tree.specs.Costs.{all_costs}
use Rattle.choice_tree.specs.Selections.{cost}
use Rattle.choice_tree.specs.WeightedTrees.{Weighted}
use Rattle.input_space.specs.TaskParts.{task_with}
use Rattle.input_space.specs.Tasks.{tree_of}
use Rattle.solver_questions.specs.Asking.{Asking, task_of}
use Rattle.solver_questions.proofs.SoundLaws.{small_costs}
use Rattle.solver_questions.proofs.questions.SolverQuestionsQuestions.cost_of.Goals as goal

pub cost-requires : goal.cost-requires
cost-requires c =
    subst (λ (w : Weighted). all_costs w < 2 ^ 32) (sym c.tree.ensures)
    (small_costs (task_with c.self.inside.task.now) c.is_sound.ensures)

pub returns : goal.returns
returns c =
    c.cost.ensures ∙ ap (cost (member_of c.args.c.now)) c.tree.ensures
    ∙ ap (λ (a : Asking). cost (member_of c.args.c.now) (tree_of (task_of a))) c.self.view_is
