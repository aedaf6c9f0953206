use Rattle.input_bits.proofs.CaseLaws.{values_have_cases as law}
use Rattle.input_bits.proofs.laws.values_have_cases.Goals as goal

pub returns : goal.returns
returns c = law
