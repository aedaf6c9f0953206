use Rattle.std.proofs.Common.{◌≡◌, length, take}
use Rattle.sym_stmt.specs.ConstantEnds.{AreSlotsIn}
use Rattle.sym_stmt.proofs.constant_end.fill_up.Given as goal

abbrev pub invariant-loop : goal.invariant-loop
invariant-loop g l = record {
  held : AreSlotsIn g.L.Logic.owns l.g l.limits l.slots;
  many : length l.slots ≡ l.counter;
  first : take (length l.fn.slots) l.slots ≡ l.fn.slots;
}
