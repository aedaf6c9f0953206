use Rattle.std.proofs.Common.{◌≡◌, ◌++◌, map, drop}
use Rattle.std.specs.List.{filter_map}
use Rattle.eml_match.specs.Parts.{template_seen}
use Rattle.eml_faults.specs.Sides.{node_meta}
use Rattle.eml_faults.proofs.metas.with_metas.Given as goal

-- what was found, and what the nodes that are left have
abbrev pub invariant-loop-e : goal.invariant-loop-e
invariant-loop-e l =
    l.fn.found.items ++ filter_map node_meta (map template_seen l.nodes)
    ≡ l.all.items ++ filter_map node_meta (map template_seen (drop l.e-index l.nodes))
