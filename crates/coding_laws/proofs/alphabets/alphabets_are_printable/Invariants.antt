use Rattle.std.proofs.Common.{◌<◌, ℕ, get_or}
use Rattle.bounds_reader.specs.declared.params.Param.{Param}
use Rattle.coding_laws.specs.Alphabets.{IsPrintable}
use Rattle.coding_laws.proofs.alphabets.alphabets_are_printable.Given as goal

abbrev pub invariant-loop-p : goal.invariant-loop-p
invariant-loop-p l = (i : ℕ) (d : Param) → i < l.p-index → IsPrintable (get_or l.bounds.params i d)
