use Rattle.bit_words.proofs.Decided.{number_decides_bits}
use Rattle.bit_words.proofs.laws.number_decides_bits.Goals as goal

pub returns : goal.returns
returns c = number_decides_bits
