use Rattle.bit_words.proofs.Decided.{word_fits}
use Rattle.bit_words.proofs.laws.word_fits.Goals as goal

pub returns : goal.returns
returns c = word_fits
