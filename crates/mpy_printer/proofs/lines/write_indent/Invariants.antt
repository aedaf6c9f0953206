use Rattle.std.proofs.Common.{◌≡◌, ◌++◌, codes}
use Rattle.mpy_tree.specs.Operations.{copies}
use Rattle.mpy_printer.proofs.lines.write_indent.Given as goal

abbrev pub invariant-loop-block : goal.invariant-loop-block
invariant-loop-block l = l.out.items ≡ l.fn.out.items ++ copies l._block (codes "    ")
