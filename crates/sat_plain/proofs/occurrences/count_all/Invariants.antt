use Rattle.std.proofs.Common.{take}
use Rattle.sat_plain.specs.Places.{AreTotals}
use Rattle.sat_plain.proofs.occurrences.count_all.Given as goal

-- the clauses so far are counted
abbrev pub invariant-loop-place : goal.invariant-loop-place
invariant-loop-place l = AreTotals (take l.place l.f.clauses) l.counts
