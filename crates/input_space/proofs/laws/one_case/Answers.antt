use Rattle.input_space.proofs.OneCase.{one_case as law}
use Rattle.input_space.proofs.laws.one_case.Goals as goal

pub returns : goal.returns
returns c = law
