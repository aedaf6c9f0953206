use Rattle.std.proofs.Common.{w32}
use Rattle.std.proofs.lemmas.Int.{to_z-of_z}
use Rattle.input_ranges.proofs.Between.{low_max, high_max}
use Rattle.input_ranges.proofs.number_ranges.digits_within.Goals as goal

pub returns-clause-low : goal.returns-clause-low
returns-clause-low c =
    let written = to_z-of_z w32 c.args.low c.ranges.low in
    let size = rw written at c.folded_size.ensures in
    rw c.max.ensures (low_max _ c.digits_of-first.result c.digits_of-second.result (rw size at c.digits_of-first.ensures))

pub returns-clause-high : goal.returns-clause-high
returns-clause-high c =
    let written = to_z-of_z w32 c.args.high c.ranges.high in
    let size = rw written at c.folded_size-2.ensures in
    rw c.max.ensures (high_max _ c.digits_of-first.result c.digits_of-second.result (rw size at c.digits_of-second.ensures))
