use Rattle.selection_numbers.proofs.Numbered.{are_numbered}
use Rattle.selection_numbers.proofs.laws.selections_have_numbers.Goals as goal

pub returns : goal.returns
returns c = λ u. are_numbered u
