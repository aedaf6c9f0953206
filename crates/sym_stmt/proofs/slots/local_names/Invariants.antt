use Rattle.std.proofs.Common.{◌≡◌, drop}
use Rattle.std.specs.List.{flat_map}
use Rattle.mpy_tree.specs.Locals.{and_new}
use Rattle.sym_stmt.specs.FactSlots.{local_names, named_by}
use Rattle.sym_stmt.proofs.slots.local_names.Given as goal

-- the names so far, and those of the facts that are left
abbrev pub invariant-loop-fact : goal.invariant-loop-fact
invariant-loop-fact l =
    local_names l.number l.params l.facts
    ≡ and_new l.names.items (flat_map (named_by l.number) (drop l.fact-index l.facts))
