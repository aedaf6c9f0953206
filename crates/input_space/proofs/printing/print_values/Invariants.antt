-- the text so far and that of the values to come are the text of all
use Rattle.std.proofs.Common.{◌≡◌, ◌++◌, All, drop, map, take}
use Rattle.mpy_tree.specs.Printing.{value_text, values_text}
use Rattle.input_space.specs.CaseLaws.{IsPrintable}
use Rattle.input_space.proofs.Joining.{joined}
use Rattle.input_space.proofs.printing.print_values.Given as goal

abbrev pub invariant-loop-v : goal.invariant-loop-v
invariant-loop-v l =
    (l.out.items ++ joined l.separator (map value_text (drop l.v-index l.vs)) ≡ l.fn.out.items ++ values_text l.vs)
    × All IsPrintable (take l.v-index l.vs)
