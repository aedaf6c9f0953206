use Rattle.std.proofs.Common.{◌≡◌, map, take}
use Rattle.mpy_tree.specs.View.{statement_of, branch_of}
use Rattle.mpy_tree.proofs.copying.+copy_stmts.Given as goal

abbrev pub invariant-copy_stmts-loop-s : goal.invariant-copy_stmts-loop-s
invariant-copy_stmts-loop-s l = map statement_of l.copies.items ≡ map statement_of (take l.s-index l.s-items)

abbrev pub invariant-copy_arms-loop-arm : goal.invariant-copy_arms-loop-arm
invariant-copy_arms-loop-arm l = map branch_of l.copies.items ≡ map branch_of (take l.arm-index l.arm-items)
