use Rattle.std.proofs.Common.{◌≡◌, ◌++◌, Some, drop, map}
use Rattle.mpy_tree.specs.declared.typing.Slot.TheVariants as slot
use Rattle.mpy_tree.specs.Rules.{single}
use Rattle.mpy_tree.specs.Typings.{set_of}
use Rattle.sym_stmt.proofs.slots.local_types.Given as goal

-- the types so far, and those of the names that are left
abbrev pub invariant-loop-x : goal.invariant-loop-x
invariant-loop-x l =
    map (λ x. single (set_of l.facts) l.number (slot.Local x)) l.names
    ≡ map (λ t. Some t) l.types.items
    ++ map (λ x. single (set_of l.facts) l.number (slot.Local x)) (drop l.x-index l.x-items)
