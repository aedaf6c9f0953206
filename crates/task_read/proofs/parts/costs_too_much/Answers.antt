-- the costs of a small tree are small
use Rattle.std.proofs.Common.{◌<◌, ◌^◌, subst, sym}
use Rattle.choice_tree.specs.Costs.{all_costs}
use Rattle.choice_tree.specs.WeightedTrees.{Weighted}
use Rattle.input_space.specs.TaskParts.{task_with}
use Rattle.task_read.proofs.Trees.{small_costs}
use Rattle.task_read.proofs.parts.costs_too_much.Goals as goal

pub most_cost-requires : goal.most_cost-requires
most_cost-requires c =
    subst (λ (w : Weighted). all_costs w < 2 ^ 32) (sym c.requires.tree)
    (small_costs (task_with c.args.parts.now) c.requires.ready c.requires.size)
