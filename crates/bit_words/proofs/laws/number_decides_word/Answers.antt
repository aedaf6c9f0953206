use Rattle.bit_words.proofs.Decided.{number_decides_word}
use Rattle.bit_words.proofs.laws.number_decides_word.Goals as goal

pub returns : goal.returns
returns c = number_decides_word
