use Rattle.cost_levels.proofs.Levelled.{are_levels}
use Rattle.cost_levels.proofs.LiveLevels.{levels_are_live}
use Rattle.cost_levels.proofs.laws.levels_are_live.Goals as goal

pub returns : goal.returns
returns c = λ u. levels_are_live (λ w n s at. (are_levels w).each_fits n s at) u
