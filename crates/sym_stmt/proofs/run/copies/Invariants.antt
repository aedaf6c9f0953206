use Rattle.std.proofs.Common.{◌≡◌, ◌++◌, drop}
use Rattle.sym_stmt.proofs.run.copies.Given as goal

-- those that are copied, and those that are left
abbrev pub invariant-loop-x : goal.invariant-loop-x
invariant-loop-x g l = l.args.items ≡ l.all ++ drop l.x-index l.args.items
