use Rattle.std.proofs.Common.{◌≡◌, map, drop}
use Rattle.std.specs.Cmp.Lexicographic.{pointwise}
use Rattle.mpy_tree.specs.declared.tree.Arms.{out-Arms}
use Rattle.mpy_tree.specs.declared.tree.Stmts.{out-Stmts}
use Rattle.mpy_tree.specs.View.{statement_of, branch_of, block_of, branches_of}
use Rattle.mpy_tree.specs.Comparing.{same_block, same_statement, same_branch, same_branches}
use Rattle.mpy_tree.proofs.equality.+same_stmts.Given as goal

-- the lists are equal where what is left of them is
abbrev pub invariant-same_stmts-loop-i : goal.invariant-same_stmts-loop-i
invariant-same_stmts-loop-i l = same_block (block_of l.a) (block_of l.b) ≡ pointwise same_statement (map statement_of (drop l.i (out-Stmts l.a).items.items)) (map statement_of (drop l.i (out-Stmts l.b).items.items))

abbrev pub invariant-same_arms-loop-i : goal.invariant-same_arms-loop-i
invariant-same_arms-loop-i l = same_branches (branches_of l.a) (branches_of l.b) ≡ pointwise same_branch (map branch_of (drop l.i (out-Arms l.a).items.items)) (map branch_of (drop l.i (out-Arms l.b).items.items))
