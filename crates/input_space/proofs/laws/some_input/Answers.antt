use Rattle.input_space.proofs.SomeInput.{some_inputs}
use Rattle.input_space.proofs.laws.some_input.Goals as goal

pub returns : goal.returns
returns c = λ b. some_inputs b.limits b.params b.ranges
