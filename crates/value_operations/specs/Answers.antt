-- What the answers of operations say.
use Rattle.std.specs.Prelude.{◌≡◌, ⊤, Option, Some, None, ℤ}
use Rattle.std.specs.declared.result.Result.{Result}
use Rattle.std.specs.declared.result.Result.TheVariants.{Ok, Err}
use Rattle.mpy_tree.specs.declared.value.Value.{Value}
use Rattle.mpy_tree.specs.declared.value.Value.TheVariants.{Int}
use Rattle.mpy_tree.specs.declared.outcome.Halted.{Halted}
use Rattle.value_operations.specs.declared.stop.Stop.{Stop}
use Rattle.value_operations.specs.declared.stop.Stop.TheVariants as stop

-- the answer, read by f, is what the definition gives, unless memory lacked
abbrev pub MeetsBy : {A B : Type 0} → (A → B) → Result A Stop → Result B Halted → Type 0
MeetsBy f (Ok v) m = m ≡ Ok (f v)
MeetsBy f (Err (stop.Halted h)) m = m ≡ Err h
MeetsBy f (Err stop.NoMemory) m = ⊤

-- the answer is what the definition gives, unless memory lacked
abbrev pub Meets : {A : Type 0} → Result A Stop → Result A Halted → Type 0
Meets = MeetsBy (λ v. v)

-- a number that was found is what the definition gives
abbrev pub GivesNumber : {E : Type 0} → Option ℤ → Result Value E → Type 0
GivesNumber None m = ⊤
GivesNumber (Some z) m = m ≡ Ok (Int z)
