use Rattle.std.proofs.Common.{◌≡◌, ◌++◌, map, drop}
use Rattle.std.specs.List.{flat_map}
use Rattle.mpy_tree.specs.Locals.{site_names, node_names}
use Rattle.mpy_scopes.specs.Seen.{name_of, site_of, node_of}
use Rattle.mpy_scopes.proofs.names.push_names.Given as goal

abbrev pub invariant-loop-n : goal.invariant-loop-n
invariant-loop-n l =
    map name_of l.fn.out.items ++ site_names (site_of l.s)
    ≡ map name_of l.out.items ++ flat_map node_names (map node_of (drop l.n-index l.n-items))
