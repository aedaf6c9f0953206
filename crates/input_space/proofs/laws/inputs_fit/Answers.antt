use Rattle.input_space.proofs.Fitting.{within_fit}
use Rattle.input_space.proofs.Members.{are_within-input}
use Rattle.input_space.proofs.laws.inputs_fit.Goals as goal

pub returns : goal.returns
returns c = λ b vs h. within_fit b.limits b.params vs b.ranges (are_within-input b.params vs h)
