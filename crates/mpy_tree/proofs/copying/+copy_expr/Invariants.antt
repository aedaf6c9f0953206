use Rattle.std.proofs.Common.{◌≡◌, map, take}
use Rattle.mpy_tree.specs.View.{term_of}
use Rattle.mpy_tree.proofs.copying.+copy_expr.Given as goal

-- the copies so far are equal to the expressions so far
abbrev pub invariant-copy_exprs-loop-e : goal.invariant-copy_exprs-loop-e
invariant-copy_exprs-loop-e l = map term_of l.copies.items ≡ map term_of (take l.e-index l.es.items.items)
