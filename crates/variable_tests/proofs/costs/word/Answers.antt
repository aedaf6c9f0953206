use Rattle.std.proofs.Common.{◌≤◌, subst, sym}
use Rattle.choice_tree.specs.Selections.{most_cost}
use Rattle.choice_tree.specs.WeightedTrees.{Weighted}
use Rattle.input_space.specs.TaskParts.{task_with}
use Rattle.input_space.specs.Tasks.{setting}
use Rattle.sym_nodes.specs.Environments.{HasPicks}
use Rattle.task_bits.proofs.HavePicks.{all_there}
use Rattle.variable_tests.proofs.SmallCosts.{small_cost}
use Rattle.variable_tests.proofs.costs.word.Goals as goal

pub sym_cost-requires-clause-numbered : goal.sym_cost-requires-clause-numbered
sym_cost-requires-clause-numbered c =
    let k = task_with c.args.task.now in
    subst (λ w. HasPicks c.in_ok-picks.picks w) (sym c.tree.ensures)
    (all_there c.in_ok-picks.picks (setting k) k.submission c.in_ok-picks.ensures.made.many)

pub sym_cost-requires-clause-small : goal.sym_cost-requires-clause-small
sym_cost-requires-clause-small c =
    subst (λ (w : Weighted). most_cost w ≤ 4096) (sym c.tree.ensures)
    (small_cost (task_with c.args.task.now) c.is_sound.ensures)
