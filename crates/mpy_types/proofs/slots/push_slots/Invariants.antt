use Rattle.std.proofs.Common.{◌≡◌, ◌++◌, map, drop}
use Rattle.mpy_tree.specs.declared.typing.Slot.TheVariants as slot
use Rattle.mpy_tree.specs.View.{routine_of}
use Rattle.mpy_tree.specs.Faults.{place, local_line}
use Rattle.mpy_scopes.specs.Seen.{name_of}
use Rattle.mpy_types.specs.Views.{place_of}
use Rattle.mpy_types.proofs.slots.push_slots.Given as goal

abbrev pub invariant-loop-x : goal.invariant-loop-x
invariant-loop-x l =
    map place_of l.fn.out.items ++ map (λ x. place l.i (slot.Local x) (local_line (routine_of l.scope.func.now) x)) (map name_of l.x-items)
    ≡ map place_of l.out.items ++ map (λ x. place l.i (slot.Local x) (local_line (routine_of l.scope.func.now) x)) (map name_of (drop l.x-index l.x-items))
