use Rattle.std.proofs.Common.{◌≡◌, map, drop}
use Rattle.std.specs.List.{list_any}
use Rattle.eml_match.specs.Parts.{template_seen}
use Rattle.eml_faults.specs.MeaningFaults.{is_miscall}
use Rattle.eml_faults.proofs.meanings.is_any_miscall.Given as goal

-- the nodes that are left decide
abbrev pub invariant-loop-e : goal.invariant-loop-e
invariant-loop-e l =
    list_any is_miscall (map template_seen l.nodes)
    ≡ list_any is_miscall (map template_seen (drop l.e-index l.nodes))
