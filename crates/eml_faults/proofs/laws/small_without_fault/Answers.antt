use Rattle.eml_faults.proofs.Faultless.{small_kept}
use Rattle.eml_faults.proofs.laws.small_without_fault.Goals as goal

pub returns : goal.returns
returns c = record { holds = small_kept }
