use Rattle.std.proofs.Common.{[], take, drop, ◌+◌}
use Rattle.sat_plain.proofs.Filling.{IsFilling}
use Rattle.sat_plain.proofs.occurrences.fill.Given as goal

-- the clauses so far are placed
abbrev pub invariant-loop-place : goal.invariant-loop-place
invariant-loop-place l = IsFilling l.f.clauses l.starts l.places l.place [] [] (drop l.place l.f.clauses)

-- and the literals so far of the next one
abbrev pub invariant-loop-lit : goal.invariant-loop-lit
invariant-loop-lit l = IsFilling l.f.clauses l.starts l.places l.place (take l.lit-index l.lit-items) (drop l.lit-index l.lit-items) (drop (l.place + 1) l.f.clauses)
