use Rattle.std.proofs.Common.{arith}
use Rattle.choice_tree.specs.Choices.{member_of}
use Rattle.choice_tree.specs.StatementViews.{weighted_prog}
use Rattle.choice_tree.proofs.CostLaws.{cost_within}
use Rattle.choice_tree.proofs.costing.cost.Goals as goal

pub returns : goal.returns
returns c =
    let most = cost_within (member_of c.args.s.now) (weighted_prog c.args.w.now) in
    let made = c.capped_cost.ensures in
    let fits = c.requires in
    omega (arith, most, made, fits)
