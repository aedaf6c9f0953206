-- the text so far and that of what is to come are the text of all
use Rattle.std.proofs.Common.{◌≡◌, ◌++◌, map, drop, codes}
use Rattle.mpy_tree.specs.Printing.{arms_text, block_text}
use Rattle.mpy_tree.specs.View.{statement_of, branch_of, block, branches, block_of, branches_of}
use Rattle.mpy_printer.proofs.statements.+statements.Given as goal

abbrev pub invariant-write_block-loop-s : goal.invariant-write_block-loop-s
invariant-write_block-loop-s l = l.out.items ++ block_text l.depth (block (map statement_of (drop l.s-index l.s-items))) ≡ l.fn.out.items ++ block_text l.depth (block_of l.b)

abbrev pub invariant-write_arms-loop-arm : goal.invariant-write_arms-loop-arm
invariant-write_arms-loop-arm l = l.out.items ++ arms_text l.depth l.word (branches (map branch_of (drop l.arm-index l.arm-items))) ≡ l.fn.out.items ++ arms_text l.depth (codes "if ") (branches_of l.arms)
