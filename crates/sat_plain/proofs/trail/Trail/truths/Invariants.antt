use Rattle.std.proofs.Common.{◌≡◌, map, take, false}
use Rattle.std.specs.Prelude.{unwrap_or}
use Rattle.sat_plain.proofs.trail.Trail.truths.Given as goal

abbrev pub invariant-loop-value : goal.invariant-loop-value
invariant-loop-value l = l.truths ≡ map (λ v. unwrap_or v false) (take l.value-index l.value-items)
