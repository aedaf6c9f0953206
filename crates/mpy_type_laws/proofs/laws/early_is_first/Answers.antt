use Rattle.mpy_type_laws.proofs.OneAnswer.{early_fault}
use Rattle.mpy_type_laws.proofs.laws.early_is_first.Goals as goal

pub returns : goal.returns
returns c = early_fault
