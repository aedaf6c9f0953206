use Rattle.std.proofs.Common.{◌≤◌, ◌^◌, ◌+◌, arith}
use Rattle.std.proofs.Math.Pow.{pow_mono}
use Rattle.known_values.proofs.Digits.{double}
use Rattle.input_bits.proofs.Digits.{digit_more}
use Rattle.input_bits.proofs.numbers.natural.Goals as goal
use Rattle.input_bits.proofs.numbers.natural.Goals.{then-at, else-at}

pub loop-i-preserved : goal.loop-i-preserved
loop-i-preserved c =
    let i = c.loop-i.i in
    let before = c.loop-i.invariant in
    let twice = double i in
    let most : 2 ^ (i + 1) ≤ 2 ^ 31 = pow_mono {j = 31} (omega arith) in
    let more = digit_more c.args.truths.now c.args.start i c.loop-i.number _ c.at.ensures before.value in
    elim c.if-at.branch [
      | then-at w ↦ record {
        weight = omega arith;
        below = omega arith;
        most = omega arith;
        value = let one = rw w.if-at.true at more in omega (arith, one);
      }
      | else-at w ↦ record {
        weight = omega arith;
        below = omega arith;
        most = omega arith;
        value = let one = rw w.if-at.false at more in omega (arith, one);
      }
    ]

pub overflow_add-weight : goal.overflow_add-weight
overflow_add-weight c =
    let i = c.loop-i.i in
    let twice = double i in
    let most : 2 ^ (i + 1) ≤ 2 ^ 31 = pow_mono {j = 31} (omega arith) in
    let before = c.loop-i.invariant in
    omega arith
