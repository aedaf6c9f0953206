use Rattle.std.proofs.Common.{◌≡◌, ◌+◌, List, drop}
use Rattle.clause_base.specs.declared.lit.Lit.{Lit}
use Rattle.derivation_check.specs.Marks.{Agrees, AllBefore}
use Rattle.clause_base.specs.Follows.{follow, hinted}
use Rattle.derivation_check.proofs.marks.follow_hints.Given as goal

-- what the rest of the hints gives is what all of them give
abbrev pub invariant-loop-i : goal.invariant-loop-i
invariant-loop-i l = record {
  upto : AllBefore (l.stamp + 1) l.marks;
  answer : (assumed : List Lit) → Agrees l.fn.marks l.stamp assumed
      → (now : List Lit) × (Agrees l.marks l.stamp now × (follow now (l.i + 1) (drop l.i (hinted l.known l.hints)) ≡ follow assumed 1 (hinted l.known l.hints)));
}
