use Rattle.mpy_type_laws.proofs.OneAnswer.{one_fault as law}
use Rattle.mpy_type_laws.proofs.laws.one_fault.Goals as goal

pub returns : goal.returns
returns c = law
