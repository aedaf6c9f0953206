use Rattle.std.proofs.Common.{◌+◌, map, take}
use Rattle.derivation_check.specs.Marks.{Agrees, AllBefore}
use Rattle.clause_base.specs.Literals.{opposite}
use Rattle.derivation_check.proofs.marks.assume_false.Given as goal

-- the literals so far are marked as false
abbrev pub invariant-loop-lit : goal.invariant-loop-lit
invariant-loop-lit l = record {
  agrees : Agrees l.marks l.stamp (map opposite (take l.lit-index l.lits));
  upto : AllBefore (l.stamp + 1) l.marks;
}
