use Rattle.cost_levels.proofs.Rising as rising
use Rattle.cost_levels.proofs.laws.levels_rise.Goals as goal

pub returns : goal.returns
returns c = λ u. rising.levels_rise u
