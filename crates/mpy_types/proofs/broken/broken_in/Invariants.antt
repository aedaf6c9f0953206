use Rattle.std.proofs.Common.{◌≡◌, map, drop, not}
use Rattle.mpy_tree.specs.View.{routine_of}
use Rattle.mpy_tree.specs.Rules.{single, site_obeys}
use Rattle.mpy_tree.specs.Names.{lines_of}
use Rattle.mpy_tree.specs.Leasts.{lesser, least}
use Rattle.mpy_scopes.specs.Seen.{site_of}
use Rattle.mpy_types.proofs.broken.broken_in.Given as goal

-- the least so far, with those of the statements that are left
abbrev pub invariant-loop-s : goal.invariant-loop-s
invariant-loop-s g l =
    least (lines_of (λ s. not (site_obeys (single (g.K.Known.gives l.known)) (map routine_of l.funcs) l.i s)) (map site_of l.s-items))
    ≡ lesser l.first (least (lines_of (λ s. not (site_obeys (single (g.K.Known.gives l.known)) (map routine_of l.funcs) l.i s)) (map site_of (drop l.s-index l.s-items))))
