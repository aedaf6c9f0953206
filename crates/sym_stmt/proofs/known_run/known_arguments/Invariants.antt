use Rattle.std.proofs.Common.{◌≡◌, Bool, List, map, take}
use Rattle.sym_values.specs.Reading.{read, sure}
use Rattle.sym_stmt.proofs.known_run.known_arguments.Given as goal

-- the arguments so far read as the values
abbrev pub invariant-loop-arg : goal.invariant-loop-arg
invariant-loop-arg g l =
    (vs : List Bool)
    → map (read (g.L.Logic.reads l.g vs)) (take l.arg-index l.args) ≡ map sure l.values.items
