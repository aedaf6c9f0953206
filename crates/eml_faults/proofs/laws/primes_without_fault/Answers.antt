use Rattle.std.proofs.Common.{[]}
use Rattle.eml_faults.proofs.Faultless.{primes_kept}
use Rattle.eml_faults.proofs.laws.primes_without_fault.Goals as goal

pub returns : goal.returns
returns c = record { holds = λ rs none. primes_kept [] rs none }
