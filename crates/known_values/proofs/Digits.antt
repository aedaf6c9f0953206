-- Numbers that are known, digit by digit.
use Rattle.std.proofs.Common.{◌≡◌, ◌∙◌, ℕ, suc, ◌+◌, ◌*◌, ◌^◌, ◌<◌, ◌≤◌, Bool, true, false, List}
use Rattle.std.proofs.Common.{map, length, take, Some, ap, arith, subst}
use Rattle.std.specs.Prelude.{slice_get, ℤ, pos, ◌+ℤ◌, ◌-ℤ◌}
use Rattle.std.proofs.lemmas.Int.{ints}
use Rattle.bit_words.specs.Words.{bit_value, int_of, nat_of}
use Rattle.bit_words.proofs.Naturals.{nat_more, power_double}
use Rattle.bit_words.proofs.Integers.{parts}

pub double : (i : ℕ) → 2 ^ (i + 1) ≡ 2 ^ i + 2 ^ i
double i =
    let next : i + 1 ≡ suc i = omega arith in
    ap (λ (n : ℕ). 2 ^ n) next ∙ power_double i

-- one digit more
pub digit_more : {B : Type 0} (f : B → Bool) (w : List B) (i n : ℕ) (b : B) (known : Bool)
    → slice_get w i ≡ Some b → f b ≡ known → nat_of (map f (take i w)) ≡ n
    → nat_of (map f (take (i + 1) w)) ≡ n + 2 ^ i * bit_value known
digit_more f w i n b known at e h =
    nat_more f w i b at ∙ ap (λ (d : Bool). nat_of (map f (take i w)) + 2 ^ i * bit_value d) e
    ∙ ap (λ (m : ℕ). m + 2 ^ i * bit_value known) h

-- a number in two's complement, by the number of the same digits without a sign
signed_cases : (p low : ℕ) (top : Bool) (z : ℤ) (n : ℕ) → low < p
    → z +ℤ pos (p * bit_value top) ≡ pos low → n ≡ low + p * bit_value top
    → (n < p → z ≡ pos n) × (p ≤ n → z ≡ pos n -ℤ pos (p + p))
signed_cases p low true z n h e k = (λ l. absurd (omega arith), λ l. omega (arith, ints))
signed_cases p low false z n h e k = (λ l. omega (arith, ints), λ l. absurd (omega arith))

pub signed_by : (bs : List Bool) (k n : ℕ) → length bs ≡ suc k → nat_of bs ≡ n
    → (n < 2 ^ k → int_of bs ≡ pos n) × (2 ^ k ≤ n → int_of bs ≡ pos n -ℤ pos (2 ^ k + 2 ^ k))
signed_by bs k n long e =
    let r = parts bs k long in
    let whole = subst (λ (m : ℕ). m ≡ r.low + 2 ^ k * bit_value r.top) e r.unsigned in
    signed_cases (2 ^ k) r.low r.top (int_of bs) n r.below r.signed whole
