use Rattle.std.proofs.Common.{◌≡◌, map, drop}
use Rattle.std.specs.List.{list_any}
use Rattle.mpy_tree.specs.Names.{is_print}
use Rattle.mpy_scopes.specs.Seen.{name_of}
use Rattle.mpy_scopes.proofs.faults.has_print.Given as goal

abbrev pub invariant-loop-x : goal.invariant-loop-x
invariant-loop-x l = list_any is_print (map name_of l.names) ≡ list_any is_print (map name_of (drop l.x-index l.names))
