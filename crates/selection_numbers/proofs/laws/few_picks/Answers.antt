use Rattle.selection_numbers.proofs.Picks.{few_counts}
use Rattle.selection_numbers.proofs.laws.few_picks.Goals as goal

pub returns : goal.returns
returns c = λ w. few_counts w
