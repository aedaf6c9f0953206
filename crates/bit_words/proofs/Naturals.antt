-- Numbers without a sign, digit by digit.
use Rattle.std.proofs.Common.{◌≡◌, ℕ, suc, ◌<◌, ◌+◌, ◌*◌, ◌^◌, Bool, true, false, List, [], ◌∷◌, ◌++◌, length, map, take, Some, refl, ap, ◌∙◌, arith, length-take}
use Rattle.std.specs.Prelude.{slice_get}
use Rattle.std.proofs.lemmas.List.{map_push, length-map}
use Rattle.std.proofs.lemmas.Option.{slice_get_within}
use Rattle.bit_words.specs.Bits.{differ, most_of}
use Rattle.bit_words.specs.Words.{bit_value, nat_of}
use Rattle.bit_words.proofs.Kept.{take_read}

pub power_double : (n : ℕ) → 2 ^ (suc n) ≡ 2 ^ n + 2 ^ n
power_double n = grind arith

pub nat_push : (bs : List Bool) (b : Bool) → nat_of (bs ++ b ∷ []) ≡ nat_of bs + 2 ^ length bs * bit_value b
nat_push [] true = refl
nat_push [] false = refl
nat_push (x ∷ bs) b =
    let rest : nat_of (bs ++ b ∷ []) ≡ nat_of bs + 2 ^ length bs * bit_value b = nat_push bs b in
    let twice : 2 ^ (suc (length bs)) ≡ 2 ^ length bs + 2 ^ length bs = power_double (length bs) in
    let product : (2 ^ length bs + 2 ^ length bs) * bit_value b ≡ 2 ^ length bs * bit_value b + 2 ^ length bs * bit_value b = omega arith in
    rw twice (omega arith)

-- one digit more of a word
pub nat_more : {B : Type 0} (f : B → Bool) (w : List B) (i : ℕ) (b : B) → slice_get w i ≡ Some b
    → nat_of (map f (take (i + 1) w)) ≡ nat_of (map f (take i w)) + 2 ^ i * bit_value (f b)
nat_more f w i b e =
    let within : i < length w = slice_get_within w i b e in
    let long : length (map f (take i w)) ≡ i = simp (length-map, length-take) (omega arith) in
    ap (λ v. nat_of (map f v)) (take_read w i b e) ∙ ap nat_of (map_push f (take i w) b) ∙ nat_push (map f (take i w)) (f b)
    ∙ ap (λ (k : ℕ). nat_of (map f (take i w)) + 2 ^ k * bit_value (f b)) long

-- a digit's sum and its carry
pub carry_step : (p : ℕ) (x y c : Bool) (s a b start : ℕ) → s + p * bit_value c ≡ a + b + start
    → (s + p * bit_value (differ (differ x y) c)) + (p + p) * bit_value (most_of x y c) ≡ (a + p * bit_value x) + (b + p * bit_value y) + start
carry_step p true true true s a b start h = omega arith
carry_step p true true false s a b start h = omega arith
carry_step p true false true s a b start h = omega arith
carry_step p true false false s a b start h = omega arith
carry_step p false true true s a b start h = omega arith
carry_step p false true false s a b start h = omega arith
carry_step p false false true s a b start h = omega arith
carry_step p false false false s a b start h = omega arith

-- one digit pushed
pub nat_pushed : {B : Type 0} (f f' : B → Bool) (w w' : List B) (b : B) (i : ℕ) → length w ≡ i → map f' w ≡ map f w → w' ≡ w ++ b ∷ []
    → nat_of (map f' w') ≡ nat_of (map f w) + 2 ^ i * bit_value (f' b)
nat_pushed f f' w w' b i long kept e =
    ap (λ v. nat_of (map f' v)) e ∙ ap nat_of (map_push f' w b) ∙ nat_push (map f' w) (f' b) ∙ ap (λ v. nat_of v + 2 ^ length v * bit_value (f' b)) kept
    ∙ ap (λ (k : ℕ). nat_of (map f w) + 2 ^ k * bit_value (f' b)) (simp length-map long)
