-- the text so far and that of the numbers to come are the text of all
use Rattle.std.proofs.Common.{◌≡◌, ◌++◌, All, codes, drop, map, take, true}
use Rattle.std.specs.Fmt.{signed_decimal}
use Rattle.mpy_tree.specs.Operations.{fits_width}
use Rattle.mpy_tree.specs.Printing.{commas}
use Rattle.input_space.proofs.Joining.{joined}
use Rattle.input_space.proofs.printing.print_numbers.Given as goal

abbrev pub invariant-loop-z : goal.invariant-loop-z
invariant-loop-z l =
    (l.out.items ++ joined l.separator (map signed_decimal (drop l.z-index l.zs)) ≡ (l.fn.out.items ++ codes "[") ++ commas (map signed_decimal l.zs))
    × All (λ z. fits_width 32 z ≡ true) (take l.z-index l.zs)
