use Rattle.choice_tree.proofs.GreatestCost.{is_greatest}
use Rattle.choice_tree.proofs.laws.greatest_cost_is_reached.Goals as goal

pub returns : goal.returns
returns c = is_greatest
