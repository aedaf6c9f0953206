use Rattle.std.proofs.Common.{arith}
use Rattle.choice_tree.specs.StatementViews.{weighted_prog}
use Rattle.choice_tree.proofs.MostLaws.{most_within}
use Rattle.choice_tree.proofs.counting.most_cost.Goals as goal

pub returns : goal.returns
returns c =
    let most = most_within (weighted_prog c.args.w.now) in
    let made = c.capped_most.ensures in
    let fits = c.requires in
    omega (arith, most, made, fits)
