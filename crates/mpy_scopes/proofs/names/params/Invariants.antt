use Rattle.std.proofs.Common.{◌≡◌, [], map, drop}
use Rattle.mpy_tree.specs.Locals.{and_new}
use Rattle.mpy_scopes.specs.Seen.{name_of}
use Rattle.mpy_scopes.proofs.names.params.Given as goal

abbrev pub invariant-loop-x : goal.invariant-loop-x
invariant-loop-x l = and_new [] l.func.params ≡ and_new (map name_of l.index.names.items) (drop l.x-index l.x-items)
