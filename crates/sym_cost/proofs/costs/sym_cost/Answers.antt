use Rattle.std.proofs.Common.{◌≤◌, arith}
use Rattle.choice_tree.specs.Selections.{cost}
use Rattle.choice_tree.specs.StatementViews.{weighted_prog}
use Rattle.choice_tree.proofs.GreatestCost.{cost_below}
use Rattle.sym_cost.proofs.costs.sym_cost.Goals as goal

pub returns-clause-value : goal.returns-clause-value
returns-clause-value g c vs m p =
    let w = weighted_prog c.args.w.now in
    let below = cost_below m w in
    let room : cost m w ≤ 4096 = omega (arith, below, c.requires.small) in
    c.in_ok-word.ensures.value vs (cost m w) (c.in_ok-cost.ensures.value vs m p room)
