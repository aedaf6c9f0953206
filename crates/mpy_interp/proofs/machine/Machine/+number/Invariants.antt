use Rattle.std.proofs.Common.{◌+◌, ◌*◌, max}
use Rattle.mpy_tree.proofs.tree.Expr.TheLaws.{the_size}
use Rattle.mpy_interp.proofs.machine.Machine.+number.Given as goal

-- twice how deep what it is given is, and one more where it looks at the operands of that
abbrev pub decreases-number : goal.decreases-number
decreases-number g l = 2 * the_size l.e.now

abbrev pub decreases-number_by : goal.decreases-number_by
decreases-number_by g l = 2 * max (the_size l.a.now) (the_size l.b.now) + 1

abbrev pub decreases-number_at : goal.decreases-number_at
decreases-number_at g l = 2 * max (the_size l.a.now) (the_size l.i.now) + 1
