use Rattle.std.proofs.Common.{◌≡◌, not, filter, take}
use Rattle.std.specs.Option.{option_to_list}
use Rattle.clause_base.specs.Literals.{opposite}
use Rattle.derivation_check.specs.Marks.{mark_true}
use Rattle.derivation_check.proofs.marks.look_over.Given as goal

-- what was found is all that is open so far
abbrev pub invariant-loop-lit : goal.invariant-loop-lit
invariant-loop-lit l = filter (λ k. not (mark_true l.marks l.stamp (opposite k))) (take l.lit-index l.lits) ≡ option_to_list l.found
