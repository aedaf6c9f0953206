use Rattle.selection_numbers.proofs.Live.{live_stands}
use Rattle.selection_numbers.proofs.laws.live_picks_suffice.Goals as goal

pub returns : goal.returns
returns c = λ m w. live_stands m w
