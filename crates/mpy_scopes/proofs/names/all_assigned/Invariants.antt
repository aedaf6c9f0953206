use Rattle.std.proofs.Common.{◌≡◌, [], map, drop}
use Rattle.std.specs.List.{flat_map}
use Rattle.mpy_tree.specs.Locals.{and_new, site_assigned}
use Rattle.mpy_scopes.specs.Seen.{name_of, site_of}
use Rattle.mpy_scopes.proofs.names.all_assigned.Given as goal

abbrev pub invariant-loop-s : goal.invariant-loop-s
invariant-loop-s l =
    and_new [] (flat_map site_assigned (map site_of l.seen))
    ≡ and_new (map name_of l.index.names.items) (flat_map site_assigned (map site_of (drop l.s-index l.seen)))
