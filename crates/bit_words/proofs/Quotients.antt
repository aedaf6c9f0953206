-- Quotients, digit by digit.
use Rattle.std.proofs.Common.{◌≡◌, ℕ, zero, suc, ◌<◌, ◌+◌, ◌*◌, ◌^◌, ◌/◌, ltb, eqb, Bool, true, false, not, ◌&&◌, List, [], ◌∷◌, length, map, take, cond, refl, sym, ap, ◌∙◌, arith}
use Rattle.std.proofs.lemmas.Bool.Decides.{nat_tests}
use Rattle.std.proofs.lemmas.Nat.{div-mul-add}
use Rattle.std.proofs.Math.Nat.{div-zero}
use Rattle.bit_words.specs.Words.{bit_value, nat_of}
use Rattle.bit_words.specs.Operations.{IsDivided}
use Rattle.bit_words.proofs.Naturals.{power_double}
use Rattle.bit_words.proofs.Integers.{bit_not}

pub nat_not : (bs : List Bool) → nat_of (map not bs) + nat_of bs + 1 ≡ 2 ^ length bs
nat_not [] = refl
nat_not (b ∷ bs) =
    let rest : nat_of (map not bs) + nat_of bs + 1 ≡ 2 ^ length bs = nat_not bs in
    let one : bit_value (not b) + bit_value b ≡ 1 = bit_not b in
    rw (power_double (length bs)) (omega arith)

-- a number can be taken from 0 only if it is 0
pub zero_cases : (q b f s : ℕ) (c : Bool) → f + b + 1 ≡ q → s < q → s + q * bit_value c ≡ 0 + f + 1 → c ≡ eqb b 0
zero_cases q b f s true e h total = let z : b ≡ 0 = omega arith in grind (arith, nat_tests)
zero_cases q b f s false e h total = let z : 0 < b = omega arith in grind (arith, nat_tests)

pub and_true : (c s : Bool) → s ≡ true → (c && s) ≡ c
and_true true s e = e
and_true false s e = refl

pub and_none : (c s : Bool) → s ≡ false → (c && s) ≡ false
and_none true s e = e
and_none false s e = refl

pub not_zero : (n : ℕ) → not (eqb n 0) ≡ ltb 0 n
not_zero n = grind (arith, nat_tests)

pub is_some : (n : ℕ) (s : Bool) → 0 < n → s ≡ ltb 0 n → s ≡ true
is_some n s h e = e ∙ grind (arith, nat_tests)

pub is_none : (n : ℕ) (s : Bool) → n ≡ 0 → s ≡ ltb 0 n → s ≡ false
is_none n s h e = e ∙ grind (arith, nat_tests)

-- the carry of the difference is the digit of the quotient
pub digit_cases : (q b f x s : ℕ) (c : Bool) → f + b + 1 ≡ q → s < q → x < b + b → s + q * bit_value c ≡ x + f + 1 → IsDivided x b (bit_value c) (cond c s x)
digit_cases q b f x s true e h k total = record { whole = omega arith; below = omega arith }
digit_cases q b f x s false e h k total = record { whole = omega arith; below = omega arith }

half_below : (b n p : ℕ) → b + (n + n) < p + p → n < p
half_below b n p h = omega arith

-- a number below half of its width has no highest digit
pub low_same : (bs : List Bool) (n : ℕ) → length bs ≡ suc n → nat_of bs < 2 ^ n → nat_of (take n bs) ≡ nat_of bs
low_same [] n e h = absurd (omega arith)
low_same (true ∷ []) zero e h = absurd (omega arith)
low_same (false ∷ []) zero e h = refl
low_same (b ∷ []) (suc n) e h = absurd (omega arith)
low_same (b ∷ c ∷ bs) zero e h = absurd (omega arith)
low_same (b ∷ c ∷ bs) (suc n) e h =
    let small : nat_of (c ∷ bs) < 2 ^ n = half_below (bit_value b) (nat_of (c ∷ bs)) (2 ^ n) (rw (power_double n) at h) in
    let rest : nat_of (take n (c ∷ bs)) ≡ nat_of (c ∷ bs) = low_same (c ∷ bs) n (omega arith) small in
    ap (λ (m : ℕ). bit_value b + (m + m)) rest

-- a digit more
pub divided_more : (d n b q r t left : ℕ) → IsDivided n b q r → IsDivided (d + (r + r)) b t left → IsDivided (d + (n + n)) b (t + (q + q)) left
divided_more d n b q r t left all one =
    let a = all.whole in
    let o = one.whole in
    let product : b * (t + (q + q)) ≡ b * t + (b * q + b * q) = omega arith in
    record { whole = omega arith; below = one.below }

pub divided_none : (n b q r : ℕ) → n ≡ 0 → q ≡ 0 → r ≡ 0 → 0 < b → IsDivided n b q r
divided_none n b q r e f h some = record { whole = rw (e, f, h) (omega arith); below = omega arith }

-- the quotient, which is 0 where nothing is divided by
pub quotient_is : (a b q r : ℕ) → (b ≡ 0 → q ≡ 0) → (0 < b → IsDivided a b q r) → q ≡ a / b
quotient_is a zero q r none some = none refl ∙ sym (div-zero a)
quotient_is a (suc b) q r none some =
    let d = some (omega arith) in
    let turned : a ≡ q * suc b + r = d.whole ∙ omega arith in
    sym (ap (λ (n : ℕ). n / suc b) turned ∙ div-mul-add q (suc b) r d.below)

pub cond_nat : (c : Bool) (xs ys : List Bool) → nat_of (cond c xs ys) ≡ cond c (nat_of xs) (nat_of ys)
cond_nat true xs ys = refl
cond_nat false xs ys = refl
