-- the costs of a task's tree are small
use Rattle.std.proofs.Common.{◌<◌, ◌^◌, subst, sym}
use Rattle.choice_tree.specs.Costs.{all_costs}
use Rattle.choice_tree.specs.WeightedTrees.{Weighted}
use Rattle.input_space.specs.TaskParts.{task_with}
use Rattle.certificate_judge.proofs.SoundLaws.{small_costs}
use Rattle.certificate_judge.proofs.form.has_its_cost.Goals as goal

pub cost-requires : goal.cost-requires
cost-requires c =
    subst (λ (w : Weighted). all_costs w < 2 ^ 32) (sym c.tree-tree.ensures)
    (small_costs (task_with c.args.t.now) c.is_sound.ensures)
