use Rattle.cost_levels.proofs.Levelled.{are_levels}
use Rattle.cost_levels.proofs.laws.selections_have_levels.Goals as goal

pub returns : goal.returns
returns c = λ u. are_levels u
