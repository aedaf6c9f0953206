use Rattle.mpy_type_laws.proofs.OneAnswer.{typed_or_not, typed_or_early}
use Rattle.mpy_type_laws.proofs.laws.typed_or_at_fault.Goals as goal

pub returns : goal.returns
returns c = λ T e p entry t. (typed_or_not T e p entry t, typed_or_early T e p entry t)
