-- the text so far and that of the functions to come are the text of all
use Rattle.std.proofs.Common.{◌≡◌, ◌++◌, map, drop}
use Rattle.mpy_tree.specs.Printing.{program_text}
use Rattle.mpy_tree.specs.View.{routine_of}
use Rattle.mpy_printer.proofs.Joining.{parted}
use Rattle.mpy_printer.proofs.functions.write_funcs.Given as goal

abbrev pub invariant-loop-f : goal.invariant-loop-f
invariant-loop-f l = l.out.items ++ parted l.separator (map routine_of (drop l.f-index l.funcs.items.items)) ≡ l.fn.out.items ++ program_text (map routine_of l.funcs.items.items)
