-- Signs and magnitudes.
use Rattle.std.proofs.Common.{◌≡◌, ℕ, zero, suc, ◌<◌, ◌≤◌, ◌+◌, ◌*◌, ◌^◌, ◌-◌, Bool, true, false, not, List, [], ◌∷◌, ◌++◌, length, map, replicate, cond, ltb, ◌||◌, refl, sym, ap, ◌∙◌, arith, subst}
use Rattle.std.specs.Prelude.{ℤ, pos, negsuc, ◌+ℤ◌, ◌*ℤ◌, neg_ℤ}
use Rattle.std.specs.Int.RustNames.{unsigned_abs}
use Rattle.std.proofs.lemmas.Int.{ints}
use Rattle.std.proofs.lemmas.Bool.Decides.{nat_tests}
use Rattle.bit_words.specs.Bits.{differ}
use Rattle.bit_words.specs.Words.{bit_value, nat_of, int_of, is_within, is_negative, signed, IsUnsigned}
use Rattle.bit_words.proofs.Naturals.{power_double}
use Rattle.bit_words.proofs.Integers.{Sum, inside, outside, within, above, beneath, parts, int_signed, int_cons, bit_not, nat_below}
use Rattle.bit_words.proofs.Products.{turn, not_below}

-- one bit less
pub narrow_cases : (p : ℕ) (t s : Bool) (z y : ℤ) (low : ℕ) → low < p → z +ℤ pos ((p + p) * bit_value s) ≡ pos (low + p * bit_value t) → y +ℤ pos (p * bit_value t) ≡ pos low
    → (differ t s ≡ not (is_within p z)) × (is_within p z ≡ true → y ≡ z)
unfolding Sum
narrow_cases p true true z y low h e f = inside p z y (within p z low (omega (arith, ints)) (omega arith)) (omega (arith, ints))
narrow_cases p true false z y low h e f = outside p z y (above p z (low + p) (omega (arith, ints)) (omega arith))
narrow_cases p false true z y low h e f = outside p z y (beneath p z (p - low - 1) (omega (arith, ints)))
narrow_cases p false false z y low h e f = inside p z y (within p z (low + p) (omega (arith, ints)) (omega arith)) (omega (arith, ints))

-- the highest bit is the sign
pub sign_is : (p low : ℕ) (t : Bool) (z : ℤ) → low < p → z +ℤ pos (p * bit_value t) ≡ pos low → t ≡ is_negative z
sign_is p low true (pos m) h e = absurd (omega (arith, ints))
sign_is p low true (negsuc m) h e = refl
sign_is p low false (pos m) h e = refl
sign_is p low false (negsuc m) h e = absurd (omega (arith, ints))

pub nat_flipped : (bs : List Bool) → nat_of (map (differ true) bs) + nat_of bs + 1 ≡ 2 ^ length bs
nat_flipped [] = refl
nat_flipped (b ∷ bs) =
    let rest : nat_of (map (differ true) bs) + nat_of bs + 1 ≡ 2 ^ length bs = nat_flipped bs in
    let one : bit_value (not b) + bit_value b ≡ 1 = bit_not b in
    rw (power_double (length bs)) (omega arith)

pub unflipped : (bs : List Bool) → map (differ false) bs ≡ bs
unflipped [] = refl
unflipped (b ∷ bs) = ap (λ w. b ∷ w) (unflipped bs)

pub int_flipped : (bs : List Bool) → 0 < length bs → int_of (map (differ true) bs) +ℤ int_of bs ≡ negsuc 0
int_flipped [] h = absurd (omega arith)
int_flipped (true ∷ []) h = refl
int_flipped (false ∷ []) h = refl
int_flipped (b ∷ c ∷ bs) h =
    let rest : int_of (map (differ true) (c ∷ bs)) +ℤ int_of (c ∷ bs) ≡ negsuc 0 = int_flipped (c ∷ bs) (omega arith) in
    let up = int_cons b c bs in
    let down = int_cons (not b) (not c) (map (differ true) bs) in
    let one = bit_not b in
    omega (arith, ints)

pub nat_zeros : (n : ℕ) → nat_of (replicate n false) ≡ 0
nat_zeros zero = refl
nat_zeros (suc n) = let rest = nat_zeros n in omega arith

-- the magnitude is the number or its opposite, which leaves no carry
magnitude_cases : (p : ℕ) (t c : Bool) (z : ℤ) (low n f s : ℕ) → low < p → z +ℤ pos (p * bit_value t) ≡ pos low → n ≡ low + p * bit_value t
    → cond t (f + n + 1 ≡ p + p) (f ≡ n) → s < p + p → s + (p + p) * bit_value c ≡ f + bit_value t → s ≡ unsigned_abs z
magnitude_cases p true true z low n f s h e k fl b total = absurd (omega arith)
magnitude_cases p true false (pos m) low n f s h e k fl b total = absurd (omega (arith, ints))
magnitude_cases p true false (negsuc m) low n f s h e k fl b total = omega (arith, ints)
magnitude_cases p false true z low n f s h e k fl b total = absurd (omega arith)
magnitude_cases p false false (pos m) low n f s h e k fl b total = omega (arith, ints)
magnitude_cases p false false (negsuc m) low n f s h e k fl b total = absurd (omega (arith, ints))

flipped_by : (t : Bool) (bs : List Bool) → cond t (nat_of (map (differ t) bs) + nat_of bs + 1 ≡ 2 ^ length bs) (nat_of (map (differ t) bs) ≡ nat_of bs)
flipped_by true bs = nat_flipped bs
flipped_by false bs = ap nat_of (unflipped bs)

pub magnitude_is : (bs : List Bool) (t c : Bool) (s : ℕ) → 0 < length bs → t ≡ is_negative (int_of bs) → s < 2 ^ length bs
    → s + 2 ^ length bs * bit_value c ≡ nat_of (map (differ t) bs) + bit_value t → s ≡ unsigned_abs (int_of bs)
magnitude_is bs t c s some e below total =
    let n : ℕ = length bs - 1 in
    let size : length bs ≡ suc n = omega arith in
    let whole : 2 ^ length bs ≡ 2 ^ n + 2 ^ n = ap (λ k. 2 ^ k) size ∙ power_double n in
    let r = parts bs n size in
    let top : r.top ≡ t = sign_is (2 ^ n) r.low r.top (int_of bs) r.below r.signed ∙ sym e in
    magnitude_cases (2 ^ n) t c (int_of bs) r.low (nat_of bs) (nat_of (map (differ t) bs)) s r.below
    (subst (λ (u : Bool). int_of bs +ℤ pos (2 ^ n * bit_value u) ≡ pos r.low) top r.signed)
    (subst (λ (u : Bool). nat_of bs ≡ r.low + 2 ^ n * bit_value u) top r.unsigned)
    (subst (λ (k : ℕ). cond t (nat_of (map (differ t) bs) + nat_of bs + 1 ≡ k) (nat_of (map (differ t) bs) ≡ nat_of bs)) whole (flipped_by t bs))
    (rw whole at below) (rw whole at total)

repeat_cases : (p : ℕ) (t : Bool) (z y : ℤ) (low n : ℕ) → z +ℤ pos (p * bit_value t) ≡ pos low → n ≡ low + p * bit_value t → y +ℤ pos ((p + p) * bit_value t) ≡ pos n → y ≡ z
repeat_cases p true z y low n e f h = omega (arith, ints)
repeat_cases p false z y low n e f h = omega (arith, ints)

-- a word that repeats its highest bit has the same number
pub repeat_sign : (bs : List Bool) (t : Bool) → 0 < length bs → t ≡ is_negative (int_of bs) → int_of (bs ++ t ∷ []) ≡ int_of bs
repeat_sign bs t some e =
    let n : ℕ = length bs - 1 in
    let size : length bs ≡ suc n = omega arith in
    let whole : 2 ^ length bs ≡ 2 ^ n + 2 ^ n = ap (λ k. 2 ^ k) size ∙ power_double n in
    let r = parts bs n size in
    let top : r.top ≡ t = sign_is (2 ^ n) r.low r.top (int_of bs) r.below r.signed ∙ sym e in
    let long : int_of (bs ++ t ∷ []) +ℤ pos ((2 ^ n + 2 ^ n) * bit_value t) ≡ pos (nat_of bs) = rw whole at (int_signed bs t) in
    repeat_cases (2 ^ n) t (int_of bs) (int_of (bs ++ t ∷ [])) r.low (nat_of bs)
    (subst (λ (u : Bool). int_of bs +ℤ pos (2 ^ n * bit_value u) ≡ pos r.low) top r.signed)
    (subst (λ (u : Bool). nat_of bs ≡ r.low + 2 ^ n * bit_value u) top r.unsigned) long

fits_cases : (p : ℕ) (t u : Bool) (z : ℤ) (low : ℕ) → low < p → z +ℤ pos (p * bit_value u) ≡ pos low → is_within (p + p) (cond t (neg_ℤ z) z) ≡ true
fits_cases p true true z low h e = within (p + p) (neg_ℤ z) (p + p + p - low) (omega (arith, ints)) (omega arith)
fits_cases p true false z low h e = within (p + p) (neg_ℤ z) (p + p - low) (omega (arith, ints)) (omega arith)
fits_cases p false true z low h e = within (p + p) z (p + low) (omega (arith, ints)) (omega arith)
fits_cases p false false z low h e = within (p + p) z (p + p + low) (omega (arith, ints)) (omega arith)

-- a number or its opposite, one bit wider
pub negated_fits : (bs : List Bool) (t : Bool) → 0 < length bs → is_within (2 ^ length bs) (cond t (neg_ℤ (int_of bs)) (int_of bs)) ≡ true
negated_fits bs t some =
    let n : ℕ = length bs - 1 in
    let size : length bs ≡ suc n = omega arith in
    let whole : 2 ^ length bs ≡ 2 ^ n + 2 ^ n = ap (λ k. 2 ^ k) size ∙ power_double n in
    let r = parts bs n size in
    rw whole (fits_cases (2 ^ n) t r.top (int_of bs) r.low r.below r.signed)

pub flipped_int : (t : Bool) (bs : List Bool) → 0 < length bs → int_of (map (differ t) bs) +ℤ pos (bit_value t) ≡ cond t (neg_ℤ (int_of bs)) (int_of bs)
flipped_int true bs some = let e = int_flipped bs some in omega (arith, ints)
flipped_int false bs some = ap (λ (v : List Bool). int_of v +ℤ pos 0) (unflipped bs) ∙ omega (arith, ints)

pub unsigned_int : (bs : List Bool) → int_of (bs ++ false ∷ []) ≡ pos (nat_of bs)
unsigned_int bs = let e : int_of (bs ++ false ∷ []) +ℤ pos (2 ^ length bs * 0) ≡ pos (nat_of bs) = int_signed bs false in omega (arith, ints)

pub cond_signed : (t : Bool) (n : ℕ) → cond t (neg_ℤ (pos n)) (pos n) ≡ signed t n
cond_signed true n = refl
cond_signed false n = refl

signed_within : (q n : ℕ) (t : Bool) → n < q → is_within q (signed t n) ≡ true
signed_within q n true h = within q (neg_ℤ (pos n)) (q - n) (omega (arith, ints)) (omega arith)
signed_within q n false h = within q (pos n) (q + n) (omega (arith, ints)) (omega arith)

pub signed_fits : (bs : List Bool) (t : Bool) → is_within (2 ^ length bs) (signed t (nat_of bs)) ≡ true
signed_fits bs t = signed_within (2 ^ length bs) (nat_of bs) t (nat_below bs)

signed_outside : (p n : ℕ) (t : Bool) → p < n → is_within p (signed t n) ≡ false
signed_outside p n true h = beneath p (neg_ℤ (pos n)) (n - p - 1) (omega (arith, ints))
signed_outside p n false h = above p (pos n) n refl (omega arith)

left_over : (p : ℕ) (z y : ℤ) (left : Bool) → left ≡ not (is_within p z) → (is_within p z ≡ true → y ≡ z) → Sum p (false || left) z y
unfolding Sum
left_over p z y left e f = (e, f)

pub power_positive : (n : ℕ) → 0 < 2 ^ n
power_positive zero = omega arith
power_positive (suc n) = let rest = power_positive n in rw (power_double n) (omega arith)

number_cases : (p n s : ℕ) (t over left : Bool) (y : ℤ) → 0 < p → over ≡ not (ltb n (p + p)) → (ltb n (p + p) ≡ true → s ≡ n)
    → left ≡ not (is_within p (signed t s)) → (is_within p (signed t s) ≡ true → y ≡ signed t s)
    → Sum p (over || left) (signed t n) y
number_cases p n s t true left y some o v e f =
    let big : p + p ≤ n = not_below n (p + p) o in outside p (signed t n) y (signed_outside p n t (omega arith))
number_cases p n s t false left y some o v e f =
    let same : s ≡ n = v (turn (ltb n (p + p)) o) in left_over p (signed t n) y left (rw same at e) (rw same at f)

-- a number whose magnitude may have left its width
pub signed_number : (w n s : ℕ) (t over left : Bool) (y : ℤ) → 0 < w → IsUnsigned w n s over
    → left ≡ not (is_within (2 ^ (w - 1)) (signed t s)) → (is_within (2 ^ (w - 1)) (signed t s) ≡ true → y ≡ signed t s)
    → ((over || left) ≡ not (is_within (2 ^ (w - 1)) (signed t n))) × (is_within (2 ^ (w - 1)) (signed t n) ≡ true → y ≡ signed t n)
unfolding Sum
signed_number w n s t over left y some u e f =
    let whole : 2 ^ w ≡ 2 ^ (w - 1) + 2 ^ (w - 1) = ap (λ (k : ℕ). 2 ^ k) (omega arith) ∙ power_double (w - 1) in
    number_cases (2 ^ (w - 1)) n s t over left y (power_positive (w - 1)) (rw whole at u.leaves) (rw whole at u.reads) e f

pub product_signed : (x y : ℤ) → x *ℤ y ≡ signed (differ (is_negative x) (is_negative y)) (unsigned_abs x * unsigned_abs y)
product_signed (pos m) (pos n) = refl
product_signed (pos m) (negsuc n) = refl
product_signed (negsuc m) (pos n) = refl
product_signed (negsuc m) (negsuc n) = refl

wider : (p : ℕ) (z : ℤ) → is_within p z ≡ true → is_within (p + p) z ≡ true
wider p (pos m) h = let lt : m < p = grind (arith, nat_tests) in let more : m < p + p = omega arith in grind (arith, nat_tests)
wider p (negsuc m) h = let lt : m < p = grind (arith, nat_tests) in let more : m < p + p = omega arith in grind (arith, nat_tests)

-- one bit less of a word whose number may have left its width
pub narrow_more : (p : ℕ) (z y x : ℤ) (over left : Bool) → over ≡ not (is_within (p + p) z) → (is_within (p + p) z ≡ true → y ≡ z)
    → left ≡ not (is_within p y) → (is_within p y ≡ true → x ≡ y)
    → ((over || left) ≡ not (is_within p z)) × (is_within p z ≡ true → x ≡ z)
narrow_more p z y x over left o v l w = by (is_within (p + p) z) refl (is_within p z) refl
  where
    by : (a : Bool) → is_within (p + p) z ≡ a → (b : Bool) → is_within p z ≡ b → ((over || left) ≡ not (is_within p z)) × (is_within p z ≡ true → x ≡ z)
    by true e b f =
        let same : y ≡ z = v e in
        let out : over ≡ false = o ∙ ap not e in
        (rw out (rw same at l), λ h. w (rw same h) ∙ same)
    by false e true f = let more = wider p z f in cc
    by false e false f =
        let out : over ≡ true = o ∙ ap not e in
        (rw (out, f) refl, λ (h : is_within p z ≡ true). cc)
