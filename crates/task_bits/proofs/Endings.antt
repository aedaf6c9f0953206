-- Whether a run ends without a fault, as its bits say.
use Rattle.std.proofs.Common.{◌≡◌, Bool, not, ap}
use Rattle.std.specs.declared.result.Result.{Result}
use Rattle.std.specs.declared.result.Result.TheVariants.{Ok, Err}
use Rattle.mpy_tree.specs.declared.limits.Limits.{Limits}
use Rattle.mpy_tree.specs.declared.outcome.Halted.{Halted}
use Rattle.mpy_tree.specs.Outcomes.{is_done, outcome_of}
use Rattle.mpy_tree.specs.Running.{Done}
use Rattle.sym_values.specs.declared.done.SymDone.{SymDone}
use Rattle.sym_values.specs.Printed.{DoneReads}

module _ {B : Type 0} (l : Limits) (rd : B → Bool) where
  pub done_reads : (d : SymDone B) (x : Result Done Halted) → DoneReads l rd d x
      → not (rd d.fault) ≡ is_done (outcome_of x)
  done_reads d (Ok r) h = ap not h.0
  done_reads d (Err e) h = ap not h
