-- the text so far and the characters to come are the text of all
use Rattle.std.proofs.Common.{◌≡◌, ◌++◌, codes, drop}
use Rattle.std.specs.List.{flat_map}
use Rattle.mpy_tree.specs.Printing.{escaped}
use Rattle.input_space.proofs.printing.print_text.Given as goal

abbrev pub invariant-loop-c : goal.invariant-loop-c
invariant-loop-c l = l.out.items ++ flat_map escaped (drop l.c-index l.text) ≡ (l.fn.out.items ++ codes "'") ++ flat_map escaped l.text
