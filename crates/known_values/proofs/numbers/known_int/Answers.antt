use Rattle.std.proofs.Common.{◌≡◌, ◌<◌, ◌≤◌, ◌^◌, ◌-◌, ℕ, suc, length, map, arith}
use Rattle.std.proofs.Math.Pow.{pow_mono}
use Rattle.std.proofs.lemmas.Bool.Decides.{nat_tests}
use Rattle.std.proofs.lemmas.Int.{ints}
use Rattle.std.proofs.lemmas.List.{length-map}
use Rattle.known_values.proofs.Digits.{signed_by}
use Rattle.known_values.proofs.numbers.known_int.Goals as goal

pub returns-then-number-half : goal.returns-then-number-half
returns-then-number-half g c vs =
    let f = g.L.Logic.reads c.args.g.now vs in
    let bits = c.args.bits.now in
    let n = c.in_ok-number.field-0 in
    let k : ℕ = length bits - 1 in
    let some : 0 < length bits = grind (arith, nat_tests, c.if-is_empty.ensures) in
    let long : length (map f bits) ≡ suc k = simp length-map (omega arith) in
    let most : 2 ^ length bits ≤ 2 ^ 16 = pow_mono {j = 16} c.in_ok-number.ensures.short in
    let small = c.in_ok-number.ensures.below in
    let below : n < 2 ^ k = omega (arith, ints) in
    let is = (signed_by (map f bits) k n long (c.in_ok-number.ensures.value vs)).0 below in
    omega (arith, ints)

pub returns : goal.returns
returns g c vs =
    let f = g.L.Logic.reads c.args.g.now vs in
    let bits = c.args.bits.now in
    let n = c.in_ok-number.field-0 in
    let k : ℕ = length bits - 1 in
    let some : 0 < length bits = grind (arith, nat_tests, c.if-is_empty.ensures) in
    let long : length (map f bits) ≡ suc k = simp length-map (omega arith) in
    let most : 2 ^ length bits ≤ 2 ^ 16 = pow_mono {j = 16} c.in_ok-number.ensures.short in
    let small = c.in_ok-number.ensures.below in
    let above : 2 ^ k ≤ n = omega (arith, ints) in
    let is = (signed_by (map f bits) k n long (c.in_ok-number.ensures.value vs)).1 above in
    omega (arith, ints)
