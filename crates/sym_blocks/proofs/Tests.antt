-- An outcome as a test.
use Rattle.std.proofs.Common.{◌≡◌, ◌∙◌, Bool}
use Rattle.std.specs.declared.result.Result.{Result}
use Rattle.std.specs.declared.result.Result.TheVariants.{Ok, Err}
use Rattle.mpy_tree.specs.declared.outcome.Halted.{Halted}
use Rattle.mpy_tree.specs.declared.value.Value.{Value}
use Rattle.mpy_tree.specs.Operations.{holds}
use Rattle.sym_values.specs.Reading.{IsOutcome, Reading, sure}
use Rattle.sym_paths.specs.Sides.{IsTest}

-- the fault bit later, and the bit of the value as a test
pub test_is : (before fault test : Bool) (reading : Reading) (r : Result Value Halted) → fault ≡ before → ((v : Value) → reading ≡ sure v → test ≡ holds v) → IsOutcome before reading r → IsTest fault test r
test_is before fault test reading (Ok v) e h k = (e ∙ k.0, h v k.1)
test_is before fault test reading (Err i) e h k = e ∙ k
