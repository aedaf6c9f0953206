-- Digits of a number.
use Rattle.std.proofs.Common.{◌≡◌, ℕ, zero, suc, ◌*◌, ◌/◌, ◌%◌, ◌<◌, refl, sym, ap, ◌∙◌}
use Rattle.std.proofs.Common.{arith, inl, inr}
use Rattle.std.proofs.Math.Nat.{mul_assoc, mul_comm, div-eq_of_lt, mod-eq_of_lt}
use Rattle.std.proofs.Math.Arith.{mod-mul}
use Rattle.std.proofs.lemmas.Nat.{div-mul-add, mod-mul-add, mod_below, row-Below}
use Rattle.eml_instances.specs.Resolving.{stopped}
use Rattle.eml_instances.proofs.Counts.{order}

-- a divisor may stop above the number that is divided
pub div_stopped : (r c : ℕ) → r < 64000064 → r / stopped c ≡ r / c
div_stopped r c h = elim (order c 64000064) [
  | inl below ↦ let e : stopped c ≡ c = omega arith in rw e refl
  | inr above ↦
      let e : stopped c ≡ 64000064 = omega arith in
      let less : r < c = omega arith in
      rw e (div-eq_of_lt h ∙ sym (div-eq_of_lt less))
]

pub mod_stopped : (r c : ℕ) → r < 64000064 → r % stopped c ≡ r % c
mod_stopped r c h = elim (order c 64000064) [
  | inl below ↦ let e : stopped c ≡ c = omega arith in rw e refl
  | inr above ↦
      let e : stopped c ≡ 64000064 = omega arith in
      let less : r < c = omega arith in
      rw e (mod-eq_of_lt h ∙ sym (mod-eq_of_lt less))
]

pub left_some : (a b r : ℕ) → r < a * b → 0 < a
left_some zero b r h = let z : 0 * b ≡ 0 = grind arith in absurd (omega arith)
left_some (suc a) b r h = omega arith

pub right_some : (a b r : ℕ) → r < a * b → 0 < b
right_some a zero r h = let z : a * 0 ≡ 0 = grind arith in absurd (omega arith)
right_some a (suc b) r h = omega arith

pub quotient_below : (r a b : ℕ) → r < a * b → r / b < a
quotient_below r a b h =
    let t : a * b ≡ b * a = mul_comm a b in
    let x : (b * a ≡ b * a) × (r / b < a) = row-Below r b b a (omega (arith, t)) (omega arith) in
    x.1

-- a digit within the digits behind others
pub digit_within : (m c n r : ℕ) → 0 < m → 0 < c → 0 < n
    → (r % (m * (c * n))) / n % c ≡ r / n % c
digit_within m c n r hm hc hn =
    let mc : 0 < m * c = Rattle.std.proofs.Math.Nat.one-le-mul hm hc in
    let e : m * (c * n) ≡ (m * c) * n = sym (mul_assoc m c n) in
    let low : r % n < n = mod_below r n hn in
    let first : (r % (m * (c * n))) / n ≡ r / n % (m * c) =
    ap (λ k. (r % k) / n) e ∙ ap (λ k. k / n) (mod-mul r mc hn)
    ∙ div-mul-add (r / n % (m * c)) n (r % n) low in
    let inner : r / n % c < c = mod_below (r / n) c hc in
    ap (λ k. k % c) (first ∙ mod-mul (r / n) hm hc)
    ∙ mod-mul-add (r / n / c % m) c (r / n % c) inner
