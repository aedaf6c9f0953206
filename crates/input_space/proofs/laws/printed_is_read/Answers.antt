use Rattle.input_space.proofs.Printed.{case_spelled}
use Rattle.input_space.proofs.laws.printed_is_read.Goals as goal

pub returns : goal.returns
returns c = case_spelled
