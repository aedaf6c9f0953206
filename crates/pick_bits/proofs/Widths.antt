-- How many bits number so many members.
use Rattle.std.proofs.Common.{◌≡◌, ◌∙◌, ℕ, zero, suc, ◌+◌, ◌^◌, ◌<◌, ◌≤◌, Bool, true, false, cond}
use Rattle.std.proofs.Common.{ap, arith}
use Rattle.std.proofs.Common.{[], ◌∷◌, ◌++◌, length, inl, inr}
use Rattle.std.specs.Prelude.{filter, min, nat_lt}
use Rattle.std.proofs.lemmas.Bool.{cases_lt, lt-ltb, le-ltb}
use Rattle.std.proofs.lemmas.List.{length-append}
use Rattle.std.proofs.lemmas.List.Elements.{filter-append}
use Rattle.std.proofs.Math.Pow.{pow_mono}
use Rattle.mpy_tree.specs.Operations.{below}
use Rattle.bit_words.proofs.Naturals.{power_double}
use Rattle.input_space.specs.SelectionBits.{member_bits}

-- an exponent is below its power of 2
pub below_power : (n : ℕ) → n < 2 ^ n
below_power zero = omega arith
below_power (suc n) =
    let rest = below_power n in
    let twice = power_double n in
    omega (arith, rest, twice)

-- a test that the numbers below d pass alone
module _ (test : ℕ → Bool) (d : ℕ) (passes : (b : ℕ) → b < d → test b ≡ true)
    (fails : (b : ℕ) → d ≤ b → test b ≡ false) where
  counted : (n : ℕ) → length (filter test (below n)) ≡ min n d
  counted zero = omega arith
  counted (suc n) =
      let rest : length (filter test (below n)) ≡ min n d = counted n in
      let whole : length (filter test (below n ++ n ∷ []))
      ≡ length (filter test (below n)) + length (filter test (n ∷ [])) =
      ap length (filter-append test (below n) (n ∷ []))
      ∙ length-append (filter test (below n)) (filter test (n ∷ [])) in
      elim (cases_lt n d) [
        | inl h ↦
            let one : length (filter test (n ∷ [])) ≡ 1 =
            ap (λ (b : Bool). length (cond b (n ∷ []) [])) (passes n h) in
            omega (arith, rest, whole, one, h)
        | inr h ↦
            let none : length (filter test (n ∷ [])) ≡ 0 =
            ap (λ (b : Bool). length (cond b (n ∷ []) [])) (fails n h) in
            omega (arith, rest, whole, none, h)
      ]

few_below : (n d : ℕ) → ((b : ℕ) → b < d → 2 ^ b < n) → d ≤ n
few_below n zero low = omega arith
few_below n (suc d) low =
    let last : 2 ^ d < n = low d (omega arith) in
    let more = below_power d in
    omega (arith, last, more)

-- so many bits are needed, and they are enough
pub bits_are : (n d : ℕ) → ((b : ℕ) → b < d → 2 ^ b < n) → n ≤ 2 ^ d → d ≡ member_bits n
bits_are n d low high =
    let few : d ≤ n = few_below n d low in
    let past : (b : ℕ) → d ≤ b → n ≤ 2 ^ b =
    λ b h. let more : 2 ^ d ≤ 2 ^ b = pow_mono h in omega (arith, more, high) in
    let all : member_bits n ≡ min n d =
    counted (λ b. nat_lt (2 ^ b) n) d (λ b h. lt-ltb (2 ^ b) n (low b h))
    (λ b h. le-ltb (2 ^ b) n (past b h)) n in
    omega (arith, few, all)

-- a number of bits that are all needed is at most one that is enough
pub few_bits : (n w d : ℕ) → ((b : ℕ) → b < w → 2 ^ b < n) → n ≤ 2 ^ d → w ≤ d
few_bits n w d needed high = elim (cases_lt d w) [
  | inl h ↦ let last : 2 ^ d < n = needed d h in absurd (omega (arith, last, high))
  | inr h ↦ h
]
