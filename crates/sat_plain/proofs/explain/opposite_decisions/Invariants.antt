use Rattle.std.proofs.Common.{◌≡◌, ◌++◌, map, reverse, take}
use Rattle.clause_base.specs.Literals.{opposite}
use Rattle.sat_plain.specs.Trails.{decided}
use Rattle.sat_plain.proofs.explain.opposite_decisions.Given as goal

-- what is had and what is left are all
abbrev pub invariant-loop-i : goal.invariant-loop-i
invariant-loop-i l = l.lits ++ map opposite (decided (reverse (take l.i l.entries))) ≡ map opposite (decided (reverse l.entries))
