use Rattle.coding_laws.proofs.FullCodings.{grown_tree}
use Rattle.coding_laws.proofs.SpelledSelections.{spelled_fits}
use Rattle.coding_laws.proofs.laws.truths_spell_what_fits.Goals as goal

pub returns : goal.returns
returns c = λ k bits s h. spelled_fits (grown_tree k) bits s h
