use Rattle.std.proofs.Common.{◌≡◌, take}
use Rattle.clause_base.proofs.log.Steps.copy.Given as goal

abbrev pub invariant-loop-step : goal.invariant-loop-step
invariant-loop-step l = l.items.items ≡ take l.step-index l.step-items
