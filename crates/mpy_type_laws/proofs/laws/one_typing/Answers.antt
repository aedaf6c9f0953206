use Rattle.mpy_type_laws.proofs.OneAnswer.{one_typing as law}
use Rattle.mpy_type_laws.proofs.laws.one_typing.Goals as goal

pub returns : goal.returns
returns c = law
