-- the tree of a task is cheap
use Rattle.std.proofs.Common.{◌<◌, ◌^◌, subst, sym}
use Rattle.choice_tree.specs.Costs.{all_costs}
use Rattle.choice_tree.specs.WeightedTrees.{Weighted}
use Rattle.input_space.specs.TaskParts.{task_with}
use Rattle.list_questions.proofs.SoundLaws.{small_costs}
use Rattle.list_questions.proofs.questions.ListQuestions.new.Goals as goal

pub most_cost-last-requires : goal.most_cost-last-requires
most_cost-last-requires c = subst (λ (w : Weighted). all_costs w < 2 ^ 32) (sym c.tree-2.ensures) (small_costs (task_with c.args.t.now) c.is_sound.ensures)
