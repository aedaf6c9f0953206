use Rattle.std.proofs.Common.{take}
use Rattle.sat_plain.specs.Places.{AreCounted}
use Rattle.sat_plain.proofs.occurrences.count.Given as goal

-- the literals so far are counted
abbrev pub invariant-loop-lit : goal.invariant-loop-lit
invariant-loop-lit l = AreCounted l.fn.counts l.counts (take l.lit-index l.lits)
