use Rattle.std.proofs.Common.{FitsSigned, w32, ◌+ℤ◌, ◌*ℤ◌, pos, arith, rules}
use Rattle.std.proofs.lemmas.Int.{ints, to_z-of_z}
use Rattle.mpy_tree.proofs.Progressions.{progression_more, step_more}
use Rattle.value_operations.proofs.ranges.numbers_from.Goals as goal

pub loop-k-preserved : goal.loop-k-preserved
loop-k-preserved c =
    let of_a = c.ranges.a in
    let of_c = c.ranges.c in
    let more = progression_more c.args.a c.args.c c.loop-k._k in
    let further = step_more c.args.a c.args.c c.loop-k._k in
    let here : FitsSigned w32 (c.args.a +ℤ (c.args.c *ℤ pos c.loop-k._k)) = c.requires c.loop-k._k (search rules) in
    record {
      made = grind (arith, ints, to_z-of_z, more, c.in_ok-push.ensures.items, c.loop-k.invariant);
      next = grind (arith, ints, to_z-of_z, further, c.loop-k.invariant);
    }
