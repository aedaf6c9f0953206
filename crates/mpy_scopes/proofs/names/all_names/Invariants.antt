use Rattle.std.proofs.Common.{◌≡◌, ◌++◌, map, drop}
use Rattle.std.specs.List.{flat_map}
use Rattle.mpy_tree.specs.Locals.{site_names}
use Rattle.mpy_scopes.specs.Seen.{name_of, site_of}
use Rattle.mpy_scopes.proofs.names.all_names.Given as goal

abbrev pub invariant-loop-s : goal.invariant-loop-s
invariant-loop-s l =
    flat_map site_names (map site_of l.seen)
    ≡ map name_of l.names.items ++ flat_map site_names (map site_of (drop l.s-index l.seen))
