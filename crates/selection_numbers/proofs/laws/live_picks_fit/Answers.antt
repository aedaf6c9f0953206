use Rattle.selection_numbers.proofs.LiveFits.{live_fits}
use Rattle.selection_numbers.proofs.laws.live_picks_fit.Goals as goal

pub returns : goal.returns
returns c = λ m u. live_fits m u
