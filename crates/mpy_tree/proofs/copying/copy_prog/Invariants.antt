use Rattle.std.proofs.Common.{◌≡◌, map, take}
use Rattle.mpy_tree.specs.View.{routine_of}
use Rattle.mpy_tree.proofs.copying.copy_prog.Given as goal

abbrev pub invariant-loop-f : goal.invariant-loop-f
invariant-loop-f l = map routine_of l.copies.items ≡ map routine_of (take l.f-index l.p.funcs.items.items)
