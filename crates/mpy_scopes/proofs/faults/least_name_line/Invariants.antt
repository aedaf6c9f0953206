use Rattle.std.proofs.Common.{◌≡◌, map, drop}
use Rattle.mpy_tree.specs.View.{routine_of}
use Rattle.mpy_tree.specs.Leasts.{lesser, least}
use Rattle.mpy_tree.specs.Names.{name_lines, name_lines_from}
use Rattle.mpy_scopes.specs.Seen.{name_of}
use Rattle.mpy_scopes.specs.Views.{scope_routine}
use Rattle.mpy_scopes.proofs.faults.least_name_line.Given as goal

abbrev pub invariant-loop-scope : goal.invariant-loop-scope
invariant-loop-scope l =
    least (name_lines (map routine_of l.scopes.funcs.now))
    ≡ lesser l.first (least (name_lines_from (map routine_of l.scopes.funcs.now) (map name_of l.before.items) (map scope_routine (drop l.scope-index l.scope-items))))
