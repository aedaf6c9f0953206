use Rattle.std.proofs.Common.{rules}
use Rattle.std.proofs.lemmas.Int.{to_z-of_z}
use Rattle.mpy_tree.proofs.Progressions.{number_fits}
use Rattle.value_operations.proofs.ranges.range.Goals as goal

pub numbers_from-requires : goal.numbers_from-requires
numbers_from-requires c =
    let of_a = c.ranges.a in
    let of_b = c.ranges.b in
    let of_c = c.ranges.c in
    let count = simp to_z-of_z at c.count_before-count.ensures in
    λ k h. simp to_z-of_z (number_fits c.args.a c.args.b c.args.c k (search rules) (rw count at h) c.ranges.a c.ranges.b)
