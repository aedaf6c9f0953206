use Rattle.std.proofs.Common.{◌≡◌, map, drop}
use Rattle.mpy_tree.specs.Leasts.{lesser, least}
use Rattle.mpy_tree.specs.View.{statement_of, branch_of, block, branches, block_of, branches_of}
use Rattle.mpy_limits.specs.Limits.{block_lines, arms_lines}
use Rattle.mpy_limits.proofs.limits.+block.Given as goal

-- the line so far and the lines that are left give what all give
abbrev pub invariant-block_limit-loop-s : goal.invariant-block_limit-loop-s
invariant-block_limit-loop-s l = lesser l.initial.found (least (block_lines l.nesting (block_of l.body))) ≡ lesser l.found (least (block_lines l.nesting (block (map statement_of (drop l.s-index l.s-items)))))

abbrev pub invariant-arms_limit-loop-arm : goal.invariant-arms_limit-loop-arm
invariant-arms_limit-loop-arm l = lesser l.initial.found (least (arms_lines l.nesting (branches_of l.arms))) ≡ lesser l.found (least (arms_lines l.nesting (branches (map branch_of (drop l.arm-index l.arm-items)))))
