use Rattle.std.proofs.Common.{◌≡◌, ◌++◌, map, drop}
use Rattle.mpy_tree.specs.Faults.{facts_at}
use Rattle.mpy_types.specs.Tables.{facts_of}
use Rattle.mpy_types.specs.Views.{place_of}
use Rattle.mpy_types.proofs.slots.facts_at.Given as goal

abbrev pub invariant-loop-s : goal.invariant-loop-s
invariant-loop-s l = facts_at (facts_of l.table) (map place_of l.places) ≡ l.facts.items ++ facts_at (facts_of l.table) (map place_of (drop l.s-index l.places))
