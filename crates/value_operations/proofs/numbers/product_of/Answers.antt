use Rattle.std.proofs.Common.{ℤ, ◌*ℤ◌, ◌^◌, FitsSigned, w32, w64, arith}
use Rattle.std.proofs.lemmas.Int.{ints, to_z-of_z, fits_signed_mul}
use Rattle.value_operations.proofs.numbers.product_of.Goals as goal

product_fits : (a b : ℤ) → FitsSigned w32 a → FitsSigned w32 b → FitsSigned w64 (a *ℤ b)
product_fits a b f g = fits_signed_mul w64 a b (2 ^ 31) (2 ^ 31) (omega (arith, ints)) (omega (arith, ints)) (omega arith)

wide : (a : ℤ) → FitsSigned w32 a → FitsSigned w64 a
wide a f = omega (arith, ints)

pub overflow_mul-result : goal.overflow_mul-result
overflow_mul-result c =
    let of_a : FitsSigned w32 c.args.a = c.ranges.a in
    let of_b : FitsSigned w32 c.args.b = c.ranges.b in
    let wide_a = wide c.args.a of_a in
    let wide_b = wide c.args.b of_b in
    simp to_z-of_z (product_fits c.args.a c.args.b of_a of_b)
