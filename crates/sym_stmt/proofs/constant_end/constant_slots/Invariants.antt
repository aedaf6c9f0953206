use Rattle.std.proofs.Common.{◌≡◌, Bool, List, map, take}
use Rattle.sym_values.specs.Printed.{slot_read}
use Rattle.sym_values.specs.Reading.{sure}
use Rattle.sym_stmt.specs.ConstantEnds.{AreSlotsIn}
use Rattle.sym_stmt.proofs.constant_end.constant_slots.Given as goal

-- the printed values so far read as these
abbrev pub invariant-loop-value : goal.invariant-loop-value
invariant-loop-value g l = record {
  made : AreSlotsIn g.L.Logic.owns l.g l.limits l.slots;
  value : (vs : List Bool) → map sure (take l.value-index l.printed)
      ≡ map (slot_read l.limits (g.L.Logic.reads l.g vs)) l.slots;
}
