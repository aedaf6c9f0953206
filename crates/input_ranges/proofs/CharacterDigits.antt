-- Digits of characters.
use Rattle.std.proofs.Common.{◌≡◌, ◌∙◌, ℕ, zero, suc, ◌+◌, ◌*◌, ◌/◌, ◌%◌, ◌^◌, ◌<◌, ◌==◌, Bool, true, false, not, ◌&&◌, ◌||◌, List, [], ◌∷◌, length, take, get_or, refl, ap, sym, subst, arith, eqb}
use Rattle.std.proofs.lemmas.Bool.{and_from, and_parts, eqb-true, false≢true}
use Rattle.std.proofs.lemmas.Bool.Decides.{nat_tests}
use Rattle.std.proofs.lemmas.Nat.{div-mul-add}
use Rattle.bit_words.specs.Bits.{differ}
use Rattle.bit_words.specs.Words.{bit_value, nat_of}
use Rattle.bit_words.proofs.Naturals.{power_double}
use Rattle.bit_words.proofs.Signs.{power_positive}
use Rattle.input_ranges.specs.Alphabets.{digit_of, is_among}

lowest_digit : (b : Bool) (n : ℕ) → b ≡ (((bit_value b + (n + n)) / 1) % 2 == 1)
lowest_digit true n = let e : ((1 + (n + n)) / 1) % 2 ≡ 1 = omega arith in grind (arith, nat_tests)
lowest_digit false n = let e : ((n + n) / 1) % 2 ≡ 0 = omega arith in grind (arith, nat_tests)

bit_low : (b : Bool) → bit_value b < 2
bit_low true = omega arith
bit_low false = omega arith

without_lowest : (p n bit : ℕ) → 0 < p → bit < 2 → (bit + (n + n)) / (p + p) ≡ n / p
without_lowest p n bit some low =
    let whole : p * (n / p) + n % p ≡ n = omega arith in
    let below : n % p < p = omega arith in
    let again : bit + (n + n) ≡ (n / p) * (p + p) + (n % p + n % p + bit) = omega arith in
    ap (λ k. k / (p + p)) again ∙ div-mul-add (n / p) (p + p) (n % p + n % p + bit) (omega arith)

-- the digits of what bits spell are the bits
pub read_digit : (bs : List Bool) (i : ℕ) → i < length bs → get_or bs i false ≡ digit_of (nat_of bs) i
read_digit [] i h = absurd (omega arith)
read_digit (b ∷ bs) zero h = lowest_digit b (nat_of bs)
read_digit (b ∷ bs) (suc i) h =
    let rest : get_or bs i false ≡ digit_of (nat_of bs) i = read_digit bs i (omega arith) in
    let twice : 2 ^ (suc i) ≡ 2 ^ i + 2 ^ i = power_double i in
    let less = without_lowest (2 ^ i) (nat_of bs) (bit_value b) (power_positive i) (bit_low b) in
    rest ∙ ap (λ k. (k % 2 == 1)) (sym less) ∙ ap (λ (p : ℕ). ((bit_value b + (nat_of bs + nat_of bs)) / p) % 2 == 1) (sym twice)

among_one : (P : ℕ → Type 0) (b : Bool) (d c : ℕ) (rest : Bool) → (d == c) ≡ b → P d → (rest ≡ true → P c) → (b || rest) ≡ true → P c
among_one P true d c rest is h k e = subst P (eqb-true d c is) h
among_one P false d c rest is h k e = k e

-- what holds of each character of an alphabet holds of one that is among it
pub among_holds : (P : ℕ → Type 0) (alphabet : List ℕ) (c : ℕ) → ((k : ℕ) → k < length alphabet → P (get_or alphabet k 0)) → is_among alphabet c ≡ true → P c
among_holds P [] c h e = absurd (false≢true e)
among_holds P (d ∷ ds) c h e =
    among_one P (d == c) d c (is_among ds c) refl (h 0 (omega arith)) (λ k. among_holds P ds c (λ j l. h (suc j) (omega arith)) k) e

-- one digit more, which is what it is taken for
pub same_digit : (b known within : Bool) → (within && not (differ b known)) ≡ true → (within ≡ true) × (known ≡ b)
same_digit true true within h = let p = and_parts within true h in (p.0, refl)
same_digit true false within h = absurd (false≢true (and_parts within false h).1)
same_digit false true within h = absurd (false≢true (and_parts within false h).1)
same_digit false false within h = let p = and_parts within true h in (p.0, refl)

pub digit_same : (b known within : Bool) → within ≡ true → known ≡ b → (within && not (differ b known)) ≡ true
digit_same true true within h e = and_from within true h refl
digit_same true false within h e = absurd (false≢true e)
digit_same false true within h e = absurd (false≢true (sym e))
digit_same false false within h e = and_from within true h refl

taken_at : (xs : List Bool) (m j : ℕ) → j < m → get_or (take m xs) j false ≡ get_or xs j false
taken_at [] zero j g = absurd (omega arith)
taken_at [] (suc m) j g = refl
taken_at (x ∷ xs) zero j g = absurd (omega arith)
taken_at (x ∷ xs) (suc m) zero g = refl
taken_at (x ∷ xs) (suc m) (suc j) g = taken_at xs m j (omega arith)

-- the lower digits of a character, where they read as it does
pub lower_digits : (bs lower : List Bool) (n k : ℕ) → lower ≡ take n bs → k < n → k < length bs → get_or lower k false ≡ digit_of (nat_of bs) k
lower_digits bs lower n k e h l = ap (λ w. get_or w k false) e ∙ taken_at bs n k h ∙ read_digit bs k l

pub or_same : (a b x y : Bool) → a ≡ x → b ≡ y → (a || b) ≡ (x || y)
or_same a b x y e h = cc

pub turned : (n m : ℕ) → eqb n m ≡ eqb m n
turned n m = grind (arith, nat_tests)
