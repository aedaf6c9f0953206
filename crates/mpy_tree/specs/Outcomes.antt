-- How a run ends, as the public outcome and as text.
use Rattle.std.specs.Prelude.{Bool, true, false, ℕ, List, codes}
use Rattle.std.specs.declared.result.Result.{Result}
use Rattle.std.specs.declared.result.Result.TheVariants.{Ok, Err}
use Rattle.mpy_tree.specs.declared.limits.Limits.{Limits}
use Rattle.mpy_tree.specs.declared.value.Value.{Value}
use Rattle.mpy_tree.specs.declared.outcome.FaultKind.{FaultKind}
use Rattle.mpy_tree.specs.declared.outcome.FaultKind.TheVariants.{Overflow, Divisor, Index, Unset}
use Rattle.mpy_tree.specs.declared.outcome.FaultKind.TheVariants.{Turns, Depth, Length, Power, Step}
use Rattle.mpy_tree.specs.declared.outcome.FaultKind.TheVariants.{NoValue}
use Rattle.mpy_tree.specs.declared.outcome.Halt.{Halt}
use Rattle.mpy_tree.specs.declared.outcome.Halt.TheVariants.{Fault, Stuck}
use Rattle.mpy_tree.specs.declared.outcome.Halted.{Halted}
use Rattle.mpy_tree.specs.declared.outcome.Outcome.{Outcome}
use Rattle.mpy_tree.specs.declared.outcome.Outcome.TheVariants as outcome
use Rattle.mpy_tree.specs.Syntax.{Routine}
use Rattle.mpy_tree.specs.Running.{Done, evaluated}

-- the kind of fault that is told: a run that is stuck is told as one that reads what isn't set
abbrev pub told : Halt → FaultKind
told (Fault kind) = kind
told Stuck = Unset

abbrev pub outcome_of : Result Done Halted → Outcome
outcome_of (Ok d) = outcome.Done d.value d.printed
outcome_of (Err h) = outcome.Fault (told h.halt) h.line

-- how a run of the program ends on these arguments
abbrev pub run_outcome : Limits → List Routine → List ℕ → List Value → Outcome
run_outcome l p entry vs = outcome_of (evaluated l p entry vs)

-- the run ends without a fault
abbrev pub is_done : Outcome → Bool
is_done (outcome.Done v vs) = true
is_done (outcome.Fault kind line) = false

abbrev pub fault_text : FaultKind → List ℕ
fault_text Overflow = codes "Overflow"
fault_text Divisor = codes "Divisor"
fault_text Index = codes "Index"
fault_text Unset = codes "Unset"
fault_text Turns = codes "Turns"
fault_text Depth = codes "Depth"
fault_text Length = codes "Length"
fault_text Power = codes "Power"
fault_text Step = codes "Step"
fault_text NoValue = codes "NoValue"
