-- the text so far and that of the names to come are the text of all
use Rattle.std.proofs.Common.{◌≡◌, ◌++◌, drop}
use Rattle.mpy_tree.specs.Printing.{commas}
use Rattle.mpy_printer.proofs.Joining.{joined}
use Rattle.mpy_printer.proofs.functions.write_names.Given as goal

abbrev pub invariant-loop-x : goal.invariant-loop-x
invariant-loop-x l = l.out.items ++ joined l.separator (drop l.x-index l.names) ≡ l.fn.out.items ++ commas l.names
