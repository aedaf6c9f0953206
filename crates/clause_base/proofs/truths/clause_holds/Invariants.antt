use Rattle.std.proofs.Common.{◌≡◌, false, take}
use Rattle.std.specs.List.{list_any}
use Rattle.clause_base.specs.Literals.{literal_true}
use Rattle.clause_base.proofs.truths.clause_holds.Given as goal

-- no literal so far is true
abbrev pub invariant-loop-lit : goal.invariant-loop-lit
invariant-loop-lit l = list_any (literal_true l.values) (take l.lit-index l.lit-items) ≡ false
