use Rattle.std.proofs.Common.{sym, subst}
use Rattle.input_space.specs.TaskParts.{task_with}
use Rattle.input_space.specs.Tasks.{setting}
use Rattle.sym_nodes.specs.Environments.{HasPicks}
use Rattle.task_bits.proofs.HavePicks.{all_there}
use Rattle.task_bits.proofs.cost.task_cost_reaches.Goals as goal

pub cost_reaches-requires-clause-numbered : goal.cost_reaches-requires-clause-numbered
cost_reaches-requires-clause-numbered g c =
    let k = task_with c.args.task.now in
    subst (λ w. HasPicks c.args.picks.now w) (sym c.tree-tree.ensures)
    (all_there c.args.picks.now (setting k) k.submission c.requires.many)
