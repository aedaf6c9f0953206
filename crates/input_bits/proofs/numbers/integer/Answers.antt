use Rattle.std.proofs.Common.{◌≡◌, ◌<◌, ◌≤◌, ◌^◌, ◌-◌, ℕ, suc, length, arith, sym, ◌∙◌}
use Rattle.std.proofs.Math.Pow.{pow_mono}
use Rattle.std.proofs.lemmas.Int.{ints}
use Rattle.bit_words.specs.Later.{values_from}
use Rattle.known_values.proofs.Digits.{signed_by}
use Rattle.input_bits.proofs.Digits.{length-values_from}
use Rattle.input_bits.proofs.numbers.integer.Goals as goal

pub returns-then-number-half : goal.returns-then-number-half
returns-then-number-half c =
    let width = c.args.width in
    let bits = values_from c.args.truths.now c.args.start width in
    let k : ℕ = width - 1 in
    let some = c.requires.some in
    let long : length bits ≡ suc k = length-values_from c.args.truths.now c.args.start width ∙ omega arith in
    let most : 2 ^ width ≤ 2 ^ 16 = pow_mono {j = 16} c.requires.short in
    let small = c.natural-number.ensures.below in
    let below : c.natural-number.result < 2 ^ k = omega (arith, ints) in
    let is = (signed_by bits k c.natural-number.result long (sym c.natural-number.ensures.value)).0 below in
    omega (arith, ints)

pub returns : goal.returns
returns c =
    let width = c.args.width in
    let bits = values_from c.args.truths.now c.args.start width in
    let k : ℕ = width - 1 in
    let some = c.requires.some in
    let long : length bits ≡ suc k = length-values_from c.args.truths.now c.args.start width ∙ omega arith in
    let most : 2 ^ width ≤ 2 ^ 16 = pow_mono {j = 16} c.requires.short in
    let small = c.natural-number.ensures.below in
    let above : 2 ^ k ≤ c.natural-number.result = omega (arith, ints) in
    let is = (signed_by bits k c.natural-number.result long (sym c.natural-number.ensures.value)).1 above in
    omega (arith, ints)
