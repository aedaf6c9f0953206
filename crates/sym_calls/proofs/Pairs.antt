-- The two numbers of a pair.
use Rattle.std.proofs.Common.{◌≡◌, ◌+◌, ◌*◌, ◌<◌, ◌≤◌, ◌⊎◌, ℕ, ap, arith, inl, inr}
use Rattle.std.proofs.lemmas.Bool.{cases_order}
use Rattle.std.proofs.lemmas.Nat.{mul-add-lt, mul-le}
use Rattle.sym_calls.specs.Pairs.{paired}

-- a pair of a smaller sum is smaller
below : (a b c d : ℕ) → a + b < c + d → paired a b < paired c d
unfolding paired
below a b c d h =
    let one : (a + b) * (c + d) + a < (c + d) * (c + d) =
    mul-add-lt (a + b) (c + d) a (c + d) h (omega (arith, h)) in
    let two : (a + b) * (a + b) ≤ (a + b) * (c + d) =
    mul-le (a + b) (a + b) (a + b) (c + d) (omega arith) (omega (arith, h)) in
    omega (arith, one, two)

-- pairs that are the same have one sum
sum_by : (a b c d : ℕ) → paired a b ≡ paired c d
    → (a + b ≡ c + d) ⊎ ((a + b < c + d) ⊎ (c + d < a + b)) → a + b ≡ c + d
sum_by a b c d e (inl same) = same
sum_by a b c d e (inr (inl h)) = let p = below a b c d h in omega (arith, p, e)
sum_by a b c d e (inr (inr h)) = let p = below c d a b h in omega (arith, p, e)

pub paired_parts : (a b c d : ℕ) → paired a b ≡ paired c d → (a ≡ c) × (b ≡ d)
unfolding paired
paired_parts a b c d e =
    let s = sum_by a b c d e (cases_order (a + b) (c + d)) in
    let square : (a + b) * (a + b) ≡ (c + d) * (c + d) = ap (λ n. n * n) s in
    let first : a ≡ c = omega (arith, e, square) in
    (first, omega (arith, first, s))
