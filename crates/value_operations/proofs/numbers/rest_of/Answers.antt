use Rattle.std.proofs.Common.{FitsSigned, w64, ◌∙◌, arith, rules}
use Rattle.std.proofs.lemmas.Int.{ints, to_z-of_z}
use Rattle.mpy_tree.proofs.Division.{rest_above, rest_below}
use Rattle.value_operations.proofs.numbers.rest_of.Goals as goal

pub returns-then-b-gt0 : goal.returns-then-b-gt0
returns-then-b-gt0 c =
    let of_a = c.ranges.a in
    let of_b = c.ranges.b in
    let of_rest : FitsSigned w64 c.rem_euclid.result = search rules in
    let rest = simp to_z-of_z at c.rem_euclid.ensures.value in
    let above = simp to_z-of_z at c.if-b-gt0.true in
    simp to_z-of_z (rest ∙ rest_above c.args.a c.args.b above)

pub returns-else-b-gt0 : goal.returns-else-b-gt0
returns-else-b-gt0 c = grind (arith, ints, to_z-of_z, rest_below)
