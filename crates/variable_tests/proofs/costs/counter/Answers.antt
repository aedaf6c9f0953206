use Rattle.std.proofs.Common.{subst, sym}
use Rattle.input_space.specs.TaskParts.{task_with}
use Rattle.input_space.specs.Tasks.{setting}
use Rattle.sym_nodes.specs.Environments.{HasPicks}
use Rattle.task_bits.proofs.HavePicks.{all_there}
use Rattle.variable_tests.proofs.costs.counter.Goals as goal

pub cost_reaches-requires-clause-numbered : goal.cost_reaches-requires-clause-numbered
cost_reaches-requires-clause-numbered c =
    let k = task_with c.args.task.now in
    subst (λ w. HasPicks c.in_ok-picks.picks w) (sym c.tree.ensures)
    (all_there c.in_ok-picks.picks (setting k) k.submission c.in_ok-picks.ensures.made.many)
