-- Floor division by complements.
use Rattle.std.proofs.Common.{◌≡◌, ◌≢◌, ℕ, zero, suc, ◌<◌, ◌≤◌, ◌+◌, ◌*◌, ◌^◌, ◌-◌, ◌/◌, eqb, Bool, true, false, ◌&&◌, List, [], ◌∷◌, ◌++◌, length, map, take, cond, refl, ap, ◌∙◌, arith, subst, length-append}
use Rattle.std.specs.Prelude.{ℤ, pos, negsuc, ◌+ℤ◌, ◌-ℤ◌, ◌*ℤ◌, neg_ℤ}
use Rattle.std.specs.Int.RustNames.{unsigned_abs}
use Rattle.std.specs.Ordering.{int_eq}
use Rattle.std.proofs.lemmas.Int.{ints}
use Rattle.std.proofs.lemmas.List.{length-map}
use Rattle.std.proofs.lemmas.Bool.Decides.{Decides-eqb, Decides-int_eq, Decides-like, same_from_decides}
use Rattle.bit_words.specs.Bits.{differ}
use Rattle.bit_words.specs.Words.{bit_value, nat_of, int_of, is_within, is_negative}
use Rattle.bit_words.specs.Operations.{IsDivided, by_positive, floor_quotient, floor_remainder, folded, unfolded}
use Rattle.bit_words.proofs.Integers.{parts, within}
use Rattle.bit_words.proofs.Signs.{int_flipped, unflipped, unsigned_int}
use Rattle.bit_words.proofs.Quotients.{low_same}

pub floor_is : (a b : ℤ) → unfolded (is_negative (by_positive a b)) (folded (by_positive a b) / unsigned_abs b) ≡ floor_quotient a b
floor_is (pos m) (pos n) = refl
floor_is (negsuc m) (pos n) = refl
floor_is (pos zero) (negsuc n) = refl
floor_is (pos (suc m)) (negsuc n) = refl
floor_is (negsuc m) (negsuc n) = refl

pub turned_is : (a b : ℤ) → cond (is_negative b) (neg_ℤ a) a ≡ by_positive a b
turned_is a (pos n) = refl
turned_is a (negsuc n) = refl

-- the complement of a number below zero, and other numbers, have no sign
folded_cases : (p low : ℕ) (t : Bool) (z y : ℤ) (n : ℕ) → low < p → y +ℤ pos (p * bit_value t) ≡ pos low → n ≡ low + p * bit_value t → y ≡ pos (folded z) → (n ≡ folded z) × (n < p)
folded_cases p low true z y n h e f g = absurd (omega (arith, ints))
folded_cases p low false z y n h e f g = (omega (arith, ints), omega arith)

complement_by : (t : Bool) (bs : List Bool) (z : ℤ) → 0 < length bs → int_of bs ≡ z → t ≡ is_negative z → int_of (map (differ t) bs) ≡ pos (folded z)
complement_by true bs (pos m) some e h = cc
complement_by true bs (negsuc m) some e h = let f = int_flipped bs some in omega (arith, ints)
complement_by false bs (pos m) some e h = ap int_of (unflipped bs) ∙ e
complement_by false bs (negsuc m) some e h = cc

complement : (t : Bool) (bs : List Bool) → 0 < length bs → t ≡ is_negative (int_of bs) → int_of (map (differ t) bs) ≡ pos (folded (int_of bs))
complement t bs some e = complement_by t bs (int_of bs) some refl e

pub folded_nat : (bs : List Bool) (t : Bool) (n : ℕ) → length bs ≡ suc n → t ≡ is_negative (int_of bs) → nat_of (take n (map (differ t) bs)) ≡ folded (int_of bs)
folded_nat bs t n e h =
    let size : length (map (differ t) bs) ≡ suc n = simp length-map e in
    let r = parts (map (differ t) bs) n size in
    let f = folded_cases (2 ^ n) r.low r.top (int_of bs) (int_of (map (differ t) bs)) (nat_of (map (differ t) bs)) r.below r.signed r.unsigned (complement t bs (omega arith) h) in
    low_same (map (differ t) bs) n size f.1 ∙ f.0

-- the complement of a number without a sign
pub unfolded_int : (t : Bool) (bs : List Bool) → int_of (map (differ t) (bs ++ false ∷ [])) ≡ unfolded t (nat_of bs)
unfolded_int true bs =
    let e = int_flipped (bs ++ false ∷ []) (simp (length-append) (omega arith)) in
    let f = unsigned_int bs in
    omega (arith, ints)
unfolded_int false bs = ap int_of (unflipped (bs ++ false ∷ [])) ∙ unsigned_int bs

abs_cases : (p low : ℕ) (t : Bool) (z : ℤ) → low < p → z +ℤ pos (p * bit_value t) ≡ pos low → unsigned_abs z ≤ p
abs_cases p low true (pos m) h e = absurd (omega (arith, ints))
abs_cases p low true (negsuc m) h e = omega (arith, ints)
abs_cases p low false (pos m) h e = omega (arith, ints)
abs_cases p low false (negsuc m) h e = absurd (omega (arith, ints))

-- a magnitude is at most half of what the width numbers
pub abs_half : (bs : List Bool) → 0 < length bs → unsigned_abs (int_of bs) ≤ 2 ^ (length bs - 1)
abs_half bs some = let r = parts bs (length bs - 1) (omega arith) in abs_cases (2 ^ (length bs - 1)) r.low r.top (int_of bs) r.below r.signed

none : (z : ℤ) → z ≡ pos 0 → unsigned_abs z ≡ 0
none z e = ap unsigned_abs e

all : (z : ℤ) → unsigned_abs z ≡ 0 → z ≡ pos 0
all (pos m) e = ap pos e
all (negsuc m) e = absurd (omega arith)

pub zero_tests : (z : ℤ) → eqb (unsigned_abs z) 0 ≡ int_eq z (pos 0)
zero_tests z = same_from_decides (eqb (unsigned_abs z) 0) (int_eq z (pos 0)) (Decides-eqb (unsigned_abs z) 0) (Decides-like (int_eq z (pos 0)) (none z) (all z) (Decides-int_eq z (pos 0)))

-- what is left, from the rest of the division by complements
pub remainder_cases : (a b : ℤ) (q r : ℕ) → IsDivided (folded (by_positive a b)) (unsigned_abs b) q r
    → cond (is_negative (by_positive a b)) b (pos 0) +ℤ (unfolded (differ (is_negative (by_positive a b)) (is_negative b)) r +ℤ pos (bit_value (is_negative b)))
    ≡ a -ℤ b *ℤ unfolded (is_negative (by_positive a b)) q
remainder_cases (pos m) (pos n) q r d = let w = d.whole in omega (arith, ints)
remainder_cases (negsuc m) (pos n) q r d = let w = d.whole in let p : n * suc q ≡ n * q + n = omega arith in omega (arith, ints)
remainder_cases (pos zero) (negsuc n) q r d = let w = d.whole in omega (arith, ints)
remainder_cases (pos (suc m)) (negsuc n) q r d = let w = d.whole in let p : suc n * suc q ≡ suc n * q + suc n = omega arith in omega (arith, ints)
remainder_cases (negsuc m) (negsuc n) q r d = let w = d.whole in omega (arith, ints)

small : (p : ℕ) (s : Bool) (b : ℤ) (r : ℕ) → unsigned_abs b ≤ p → r < unsigned_abs b → is_within p (cond s b (pos 0) +ℤ (unfolded (differ s (is_negative b)) r +ℤ pos (bit_value (is_negative b)))) ≡ true
small p true (pos n) r h k = within p (pos n +ℤ (negsuc r +ℤ pos 0)) (p + n - r - 1) (omega (arith, ints)) (omega arith)
small p true (negsuc n) r h k = within p (negsuc n +ℤ (pos r +ℤ pos 1)) (p + r - n) (omega (arith, ints)) (omega arith)
small p false (pos n) r h k = within p (pos 0 +ℤ (pos r +ℤ pos 0)) (p + r) (omega (arith, ints)) (omega arith)
small p false (negsuc n) r h k = within p (pos 0 +ℤ (negsuc r +ℤ pos 1)) (p - r) (omega (arith, ints)) (omega arith)

-- it is smaller than the divisor
pub remainder_within : (p : ℕ) (a b : ℤ) (q r : ℕ) → unsigned_abs b ≤ p → IsDivided (folded (by_positive a b)) (unsigned_abs b) q r → is_within p (a -ℤ b *ℤ unfolded (is_negative (by_positive a b)) q) ≡ true
remainder_within p a b q r h d = subst (λ (z : ℤ). is_within p z ≡ true) (remainder_cases a b q r d) (small p (is_negative (by_positive a b)) b r h d.below)

grouped : (x y z : ℤ) → x +ℤ y +ℤ z ≡ x +ℤ (y +ℤ z)
grouped x y z = omega (arith, ints)

-- the same remainder by the floor quotient
pub remainder_is : (a b : ℤ) (q r : ℕ) → q ≡ folded (by_positive a b) / unsigned_abs b → IsDivided (folded (by_positive a b)) (unsigned_abs b) q r
    → cond (is_negative (by_positive a b)) b (pos 0) +ℤ unfolded (differ (is_negative (by_positive a b)) (is_negative b)) r +ℤ pos (bit_value (is_negative b)) ≡ floor_remainder a b
remainder_is a b q r e d =
    let quotient : unfolded (is_negative (by_positive a b)) q ≡ floor_quotient a b = ap (unfolded (is_negative (by_positive a b))) e ∙ floor_is a b in
    grouped (cond (is_negative (by_positive a b)) b (pos 0)) (unfolded (differ (is_negative (by_positive a b)) (is_negative b)) r) (pos (bit_value (is_negative b)))
    ∙ remainder_cases a b q r d ∙ ap (λ (z : ℤ). a -ℤ b *ℤ z) quotient

by_none : (a z : ℤ) → a -ℤ pos 0 *ℤ z ≡ a
by_none a (pos n) = let e : 0 * n ≡ 0 = omega arith in rw e (omega (arith, ints))
by_none a (negsuc n) = let e : 0 * suc n ≡ 0 = omega arith in rw e (omega (arith, ints))

fits_some : (p : ℕ) (a b : ℤ) (q r : ℕ) → 0 < unsigned_abs b → unsigned_abs b ≤ p → (0 < unsigned_abs b → IsDivided (folded (by_positive a b)) (unsigned_abs b) q r) → q ≡ folded (by_positive a b) / unsigned_abs b
    → is_within p (floor_remainder a b) ≡ true
fits_some p a b q r some half d e =
    let quotient : unfolded (is_negative (by_positive a b)) q ≡ floor_quotient a b = ap (unfolded (is_negative (by_positive a b))) e ∙ floor_is a b in
    subst (λ (z : ℤ). is_within p (a -ℤ b *ℤ z) ≡ true) quotient (remainder_within p a b q r half (d some))

-- a remainder has the width of its parts
pub remainder_fits : (p : ℕ) (a b : ℤ) (q r : ℕ) → is_within p a ≡ true → unsigned_abs b ≤ p → (0 < unsigned_abs b → IsDivided (folded (by_positive a b)) (unsigned_abs b) q r) → q ≡ folded (by_positive a b) / unsigned_abs b
    → is_within p (floor_remainder a b) ≡ true
remainder_fits p a (pos zero) q r fit half d e = rw (by_none a (floor_quotient a (pos zero))) fit
remainder_fits p a (pos (suc n)) q r fit half d e = fits_some p a (pos (suc n)) q r (omega arith) half d e
remainder_fits p a (negsuc n) q r fit half d e = fits_some p a (negsuc n) q r (omega arith) half d e

pub some_abs : (b : ℤ) → b ≢ pos 0 → 0 < unsigned_abs b
some_abs (pos zero) h = absurd (h refl)
some_abs (pos (suc n)) h = omega arith
some_abs (negsuc n) h = omega arith

own_cases : (p low : ℕ) (t : Bool) (z : ℤ) → low < p → z +ℤ pos (p * bit_value t) ≡ pos low → is_within p z ≡ true
own_cases p low true z h e = within p z low (omega (arith, ints)) (omega arith)
own_cases p low false z h e = within p z (low + p) (omega (arith, ints)) (omega arith)

-- a word's number has the word's width
pub own_fits : (bs : List Bool) → 0 < length bs → is_within (2 ^ (length bs - 1)) (int_of bs) ≡ true
own_fits bs some = let r = parts bs (length bs - 1) (omega arith) in own_cases (2 ^ (length bs - 1)) r.low r.top (int_of bs) r.below r.signed

small_cases : (p low : ℕ) (t : Bool) (z : ℤ) (n : ℕ) → z +ℤ pos (p * bit_value t) ≡ pos low → n ≡ low + p * bit_value t → n < p → z ≡ pos n
small_cases p low true z n e f h = absurd (omega arith)
small_cases p low false z n e f h = omega (arith, ints)

-- a word below half of its width has no sign
pub small_int : (bs : List Bool) → 0 < length bs → nat_of bs < 2 ^ (length bs - 1) → int_of bs ≡ pos (nat_of bs)
small_int bs some h = let r = parts bs (length bs - 1) (omega arith) in small_cases (2 ^ (length bs - 1)) r.low r.top (int_of bs) (nat_of bs) r.signed r.unsigned h

pub complemented : (t : Bool) (bs : List Bool) (n : ℕ) → 0 < length bs → int_of bs ≡ pos n → int_of (map (differ t) bs) ≡ unfolded t n
complemented true bs n some e = let f = int_flipped bs some in omega (arith, ints)
complemented false bs n some e = ap int_of (unflipped bs) ∙ e

kept : (bs : List Bool) → map (λ b. true && b) bs ≡ bs
kept [] = refl
kept (b ∷ bs) = ap (λ w. b ∷ w) (kept bs)

masked : (bs : List Bool) → int_of (map (λ b. false && b) bs) ≡ pos 0
masked [] = refl
masked (b ∷ []) = refl
masked (b ∷ c ∷ bs) = let rest : int_of (map (λ b. false && b) (c ∷ bs)) ≡ pos 0 = masked (c ∷ bs) in ap (λ (z : ℤ). pos 0 +ℤ (z +ℤ z)) rest

pub int_masked : (t : Bool) (bs : List Bool) → int_of (map (λ b. t && b) bs) ≡ cond t (int_of bs) (pos 0)
int_masked true bs = ap int_of (kept bs)
int_masked false bs = masked bs

-- a floor quotient and its divisor, of what the division gives
pub ruleset quotients = (floor_is, zero_tests)
