use Rattle.mpy_interp.proofs.Lookups.{IsBoundSoFar}
use Rattle.mpy_interp.proofs.frame.bindings.Given as goal

abbrev pub invariant-loop-value : goal.invariant-loop-value
invariant-loop-value l = IsBoundSoFar l.names l.locals.items l.yielded
