use Rattle.std.proofs.Common.{◌≡◌, map, drop}
use Rattle.mpy_tree.specs.Faults.{slots_fault}
use Rattle.mpy_types.specs.Tables.{facts_of}
use Rattle.mpy_types.specs.Views.{place_of}
use Rattle.mpy_types.proofs.slots.slots_fault.Given as goal

abbrev pub invariant-loop-s : goal.invariant-loop-s
invariant-loop-s l = slots_fault l.free (facts_of l.table) (map place_of l.places) ≡ slots_fault l.free (facts_of l.table) (map place_of (drop l.s-index l.places))
