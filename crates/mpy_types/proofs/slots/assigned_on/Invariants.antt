use Rattle.std.proofs.Common.{◌≡◌, map, drop}
use Rattle.mpy_tree.specs.Faults.{assigned_on}
use Rattle.mpy_scopes.specs.Seen.{site_of}
use Rattle.mpy_types.proofs.slots.assigned_on.Given as goal

abbrev pub invariant-loop-s : goal.invariant-loop-s
invariant-loop-s l = assigned_on l.x (map site_of l.seen) ≡ assigned_on l.x (map site_of (drop l.s-index l.seen))
