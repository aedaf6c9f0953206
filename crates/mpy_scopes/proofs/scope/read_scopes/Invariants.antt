use Rattle.std.proofs.Common.{◌≡◌, ◌++◌, map, drop}
use Rattle.mpy_tree.specs.View.{routine_of}
use Rattle.mpy_scopes.specs.Numbers.{room, rooms_from}
use Rattle.mpy_scopes.specs.Seen.{name_of}
use Rattle.mpy_scopes.proofs.scope.read_scopes.Given as goal

abbrev pub invariant-loop-func : goal.invariant-loop-func
invariant-loop-func l =
    (l.funcs ≡ map (λ s. s.func.now) l.items.items ++ drop l.func-index l.funcs)
    × (rooms_from 0 (map routine_of l.funcs) ≡ map (λ s. room s.first (map name_of s.names.names.items)) l.items.items ++ rooms_from l.first (map routine_of (drop l.func-index l.funcs)))
