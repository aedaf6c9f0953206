use Rattle.input_bits.proofs.LaidOut.{decoded_at}
use Rattle.input_bits.proofs.laws.what_is_read_decodes.Goals as goal

pub returns : goal.returns
returns c = λ l t vs start. decoded_at l t vs start
