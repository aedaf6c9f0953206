use Rattle.std.proofs.Common.{ℕ, ◌≡◌, ◌+◌, ◌<◌, ◌^◌, arith, inl, inr, subst}
use Rattle.std.proofs.lemmas.Bool.{cases_lt}
use Rattle.std.proofs.Math.Pow.{pow_pos}
use Rattle.known_values.proofs.Digits.{double}
use Rattle.pick_bits.proofs.Widths.{below_power, bits_are}
use Rattle.pick_bits.proofs.members.member_bits.Goals as goal

-- one power more
below_next : (n d : ℕ) → ((b : ℕ) → b < d → 2 ^ b < n) → 2 ^ d < n → (b : ℕ) → b < d + 1 → 2 ^ b < n
below_next n d low here b h = elim (cases_lt b d) [
  | inl l ↦ low b l
  | inr l ↦ let same : d ≡ b = omega (arith, h, l) in subst (λ k. 2 ^ k < n) same here
]

pub loop-reach-preserved : goal.loop-reach-preserved
loop-reach-preserved c =
    let before = c.loop-reach.invariant in
    let twice = double c.loop-reach.count in
    record {
      reach = omega arith;
      below = below_next c.args.members c.loop-reach.count before.below (omega arith);
    }

pub loop-reach-smaller : goal.loop-reach-smaller
loop-reach-smaller c =
    let some = pow_pos c.loop-reach.count in
    omega arith

pub overflow_add-count : goal.overflow_add-count
overflow_add-count c =
    let few = below_power c.loop-reach.count in
    omega arith

pub returns-clause-value : goal.returns-clause-value
returns-clause-value c =
    let found = c.loop-reach.invariant in
    bits_are c.args.members c.loop-reach.count found.below (omega arith)
