use Rattle.std.proofs.Common.{◌≡◌, map, drop}
use Rattle.mpy_tree.specs.View.{statement_of, branch_of, block, branches, block_of, branches_of}
use Rattle.mpy_limits.specs.Limits.{nth_or_left, statements, statements_of}
use Rattle.mpy_limits.proofs.limits.+statement.Given as goal

-- what is left of the place in what is left of the block is the place in the block
abbrev pub invariant-statement_at-loop-s : goal.invariant-statement_at-loop-s
invariant-statement_at-loop-s l = nth_or_left (statements (block_of l.body)) l.n ≡ nth_or_left (statements (block (map statement_of (drop l.s-index l.s-items)))) l.left

abbrev pub invariant-statement_in_arms-loop-arm : goal.invariant-statement_in_arms-loop-arm
invariant-statement_in_arms-loop-arm l = nth_or_left (statements_of (branches_of l.arms)) l.n ≡ nth_or_left (statements_of (branches (map branch_of (drop l.arm-index l.arm-items)))) l.left
