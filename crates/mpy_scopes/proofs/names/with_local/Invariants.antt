use Rattle.std.proofs.Common.{◌≡◌, map, drop}
use Rattle.std.specs.List.{filter}
use Rattle.mpy_tree.specs.Locals.{and_new, is_among}
use Rattle.mpy_scopes.specs.Seen.{name_of}
use Rattle.mpy_scopes.proofs.names.with_local.Given as goal

abbrev pub invariant-loop-x : goal.invariant-loop-x
invariant-loop-x l =
    and_new (map name_of l.fn.index.names.items) (filter (is_among (map name_of l.assigned.names.items)) (map name_of l.names))
    ≡ and_new (map name_of l.index.names.items) (filter (is_among (map name_of l.assigned.names.items)) (map name_of (drop l.x-index l.names)))
