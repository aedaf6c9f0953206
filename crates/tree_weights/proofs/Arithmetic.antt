-- Sums and products that the prover doesn't find.
use Rattle.std.proofs.Common.{◌≡◌, ◌⊎◌, ℕ, zero, suc, ◌+◌, ◌-◌, ◌*◌, ◌^◌, ◌<◌, ◌≤◌, Bool, true, false}
use Rattle.std.proofs.Common.{if◌then◌else◌, inl, inr, sym, ap, ◌∙◌, arith}
use Rattle.std.proofs.Math.Nat.{mul-le-mul_left, mul-le-mul_right, one-mul, pow-suc, pow-zero}

pub cube : (n : ℕ) → n * n * n ≡ n ^ 3
cube n =
    sym (pow-suc n 2
    ∙ ap (λ k. k * n) (pow-suc n 1 ∙ ap (λ k. k * n) (pow-suc n 0
    ∙ ap (λ k. k * n) (pow-zero n) ∙ one-mul n)))

order : (a b : ℕ) → (a ≤ b) ⊎ (b < a)
order zero b = inl (omega arith)
order (suc a) zero = inr (omega arith)
order (suc a) (suc b) = elim (order a b) [
  | inl below ↦ inl (omega arith)
  | inr above ↦ inr (omega arith)
]

-- What is left behind a loop: h is what its head weighs, b its body, and e what is done before each
-- turn.
turns_left : (left h b e turns turn behind : ℕ) → 1 ≤ turns → h ≤ left → behind ≡ left - h
    → turn ≡ left - ((left - e) - b) → behind - turns * turn ≡ left - (h + turns * (e + b))
turns_left left h b e turns turn behind some within there is = elim (order (e + b) left) [
  | inl fits ↦
      let same : turn ≡ e + b = omega arith in
      let all : turns * turn ≡ turns * (e + b) = ap (λ n. turns * n) same in
      omega (arith, all)
  | inr more ↦
      let whole : turn ≡ left = omega arith in
      let all : turns * turn ≡ turns * left = ap (λ n. turns * n) whole in
      let once : 1 * left ≤ turns * left = mul-le-mul_right left some in
      let large : turns * left ≤ turns * (e + b) = mul-le-mul_left turns (omega arith) in
      omega (arith, all, once, large)
]

pub loop_left : (left h b step extra turns turn behind : ℕ) (again : Bool) → 1 ≤ turns
    → behind ≡ left - h → extra ≡ (if again then left - behind else 0)
    → turn ≡ left - ((left - (step + extra)) - b)
    → behind - turns * turn ≡ left - (h + turns * (step + (if again then h else 0) + b))
loop_left left h b step extra turns turn behind true some there more is = elim (order h left) [
  | inl fits ↦
      let same : extra ≡ h = omega arith in
      turns_left left h b (step + h) turns turn behind some fits there
      (rw same at is)
  | inr none ↦ omega arith
]
loop_left left h b step extra turns turn behind false some there more is = elim (order h left) [
  | inl fits ↦
      let same : extra ≡ 0 = omega arith in
      turns_left left h b (step + 0) turns turn behind some fits there (rw same at is)
  | inr none ↦ omega arith
]
