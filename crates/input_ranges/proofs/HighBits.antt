-- Bits of which all high ones are one bit.
use Rattle.std.proofs.Common.{◌≡◌, ◌∙◌, ℕ, zero, suc, ◌+◌, ◌-◌, ◌^◌, ◌<◌, ◌≤◌, Bool, true, false, List, [], ◌∷◌, ◌++◌, length, map, take, drop, refl, ap, sym, subst, arith, min, inl, inr, Some}
use Rattle.std.specs.Prelude.{replicate, slice_get, ℤ, pos, negsuc, ◌+ℤ◌}
use Rattle.std.specs.List.{list_all}
use Rattle.std.proofs.lemmas.Bool.{and_from, and_parts, cases_lt}
use Rattle.std.proofs.lemmas.Bool.Decides.{nat_tests}
use Rattle.std.proofs.lemmas.Int.{ints}
use Rattle.std.proofs.lemmas.List.{length-drop, length-map, map-append, take_all, take-append-drop, take-map}
use Rattle.std.proofs.Math.ListN.{drop_of_length-le}
use Rattle.std.proofs.lemmas.List.Elements.{All-replicate}
use Rattle.bit_words.specs.Logic.{OwnsAll}
use Rattle.bit_words.specs.Later.{owns_both}
use Rattle.bit_words.specs.Words.{bit_value, int_of, is_negative, is_within, nat_of}
use Rattle.bit_words.proofs.Integers.{int_cons, nat_read_below}
use Rattle.bit_words.proofs.Kept.{drop_read, owns_taken}
use Rattle.bit_words.proofs.Naturals.{power_double}
use Rattle.input_ranges.specs.Bits.{is_bit}

pub same_bit : (t b : Bool) → is_bit t b ≡ true → b ≡ t
same_bit true true e = refl
same_bit true false e = cc
same_bit false true e = cc
same_bit false false e = refl

pub is_itself : (t b : Bool) → b ≡ t → is_bit t b ≡ true
is_itself true true e = refl
is_itself true false e = cc
is_itself false true e = cc
is_itself false false e = refl

all_repeated : (t : Bool) (xs : List Bool) → list_all (is_bit t) xs ≡ true → xs ≡ replicate (length xs) t
all_repeated t [] h = refl
all_repeated t (x ∷ xs) h =
    let parts = and_parts (is_bit t x) (list_all (is_bit t) xs) h in
    let one : x ≡ t = same_bit t x parts.0 in
    let rest : xs ≡ replicate (length xs) t = all_repeated t xs parts.1 in
    cc

map_repeated : {A B : Type 0} (f : A → B) (n : ℕ) (x : A) → map f (replicate n x) ≡ replicate n (f x)
map_repeated f zero x = refl
map_repeated f (suc n) x = ap (λ w. f x ∷ w) (map_repeated f n x)

-- what is made of the low bits and of the high one reads as all the bits did, if these were it
pub high_right : {B : Type 0} (f : B → Bool) (bits made : List B) (d : ℕ) (high : B) → made ≡ take d bits ++ replicate (length bits - d) high
    → list_all (is_bit (f high)) (drop d (map f bits)) ≡ true → map f made ≡ map f bits
high_right f bits made d high e h =
    let many : length (drop d (map f bits)) ≡ length bits - d = length-drop d (map f bits) ∙ ap (λ k. k - d) (length-map bits f) in
    let highs : drop d (map f bits) ≡ replicate (length bits - d) (f high) = all_repeated (f high) (drop d (map f bits)) h ∙ ap (λ k. replicate k (f high)) many in
    ap (map f) e ∙ map-append f (take d bits) (replicate (length bits - d) high)
    ∙ ap (λ w. w ++ map f (replicate (length bits - d) high)) (sym (take-map f d bits))
    ∙ ap (λ w. take d (map f bits) ++ w) (map_repeated f (length bits - d) high ∙ sym highs)
    ∙ take-append-drop d (map f bits)

pub owns_filled : {S B : Type 0} {owns : S → B → Type 0} {s : S} {bits made : List B} (d : ℕ) {high : B} → OwnsAll owns s bits → owns s high
    → made ≡ take d bits ++ replicate (length bits - d) high → OwnsAll owns s made
owns_filled {S} {B} {owns} {s} {bits} {made} d {high} h k e =
    subst (OwnsAll owns s) (sym e) (owns_both (owns_taken d h) (record { each = All-replicate (owns s) (length bits - d) high k }))

-- THE HIGH BITS OF A SMALL NUMBER

low_zero : (b : Bool) (n : ℕ) → bit_value b + (n + n) < 1 → (b ≡ false) × (n < 1)
low_zero true n h = absurd (omega arith)
low_zero false n h = (refl, omega arith)

pub nat_high : (d : ℕ) (bs : List Bool) → nat_of bs < 2 ^ d → list_all (is_bit false) (drop d bs) ≡ true
nat_high zero [] h = refl
nat_high zero (b ∷ bs) h =
    let low = low_zero b (nat_of bs) h in
    let rest : list_all (is_bit false) bs ≡ true = nat_high zero bs low.1 in
    and_from (is_bit false b) (list_all (is_bit false) bs) (is_itself false b low.0) rest
nat_high (suc d) [] h = refl
nat_high (suc d) (b ∷ bs) h =
    let twice : 2 ^ (suc d) ≡ 2 ^ d + 2 ^ d = power_double d in
    nat_high d bs (omega arith)

half : (p : ℕ) (b : Bool) (r z : ℤ) → z ≡ pos (bit_value b) +ℤ (r +ℤ r) → is_within (p + p) z ≡ true → (is_within p r ≡ true) × (is_negative z ≡ is_negative r)
half p true (pos m) (pos n) e h = let lt : n < p + p = grind (arith, nat_tests) in let le : n ≡ 1 + (m + m) = omega (arith, ints) in let low : m < p = omega arith in (grind (arith, nat_tests), refl)
half p false (pos m) (pos n) e h = let lt : n < p + p = grind (arith, nat_tests) in let le : n ≡ m + m = omega (arith, ints) in let low : m < p = omega arith in (grind (arith, nat_tests), refl)
half p true (pos m) (negsuc n) e h = absurd (omega (arith, ints))
half p false (pos m) (negsuc n) e h = absurd (omega (arith, ints))
half p true (negsuc m) (pos n) e h = absurd (omega (arith, ints))
half p false (negsuc m) (pos n) e h = absurd (omega (arith, ints))
half p true (negsuc m) (negsuc n) e h = let lt : n < p + p = grind (arith, nat_tests) in let le : n ≡ m + m = omega (arith, ints) in let low : m < p = omega arith in (grind (arith, nat_tests), refl)
half p false (negsuc m) (negsuc n) e h = let lt : n < p + p = grind (arith, nat_tests) in let le : n ≡ 1 + (m + m) = omega (arith, ints) in let low : m < p = omega arith in (grind (arith, nat_tests), refl)

lowest : (b : Bool) (r z : ℤ) → z ≡ pos (bit_value b) +ℤ (r +ℤ r) → is_within 1 z ≡ true → (is_within 1 r ≡ true) × (is_negative z ≡ is_negative r) × (b ≡ is_negative z)
lowest true (pos m) (pos n) e h = let lt : n < 1 = grind (arith, nat_tests) in absurd (omega (arith, ints))
lowest false (pos m) (pos n) e h = let lt : n < 1 = grind (arith, nat_tests) in let low : m < 1 = omega (arith, ints) in (grind (arith, nat_tests), refl, refl)
lowest true (pos m) (negsuc n) e h = absurd (omega (arith, ints))
lowest false (pos m) (negsuc n) e h = absurd (omega (arith, ints))
lowest true (negsuc m) (pos n) e h = absurd (omega (arith, ints))
lowest false (negsuc m) (pos n) e h = absurd (omega (arith, ints))
lowest true (negsuc m) (negsuc n) e h = let lt : n < 1 = grind (arith, nat_tests) in let low : m < 1 = omega (arith, ints) in (grind (arith, nat_tests), refl, refl)
lowest false (negsuc m) (negsuc n) e h = let lt : n < 1 = grind (arith, nat_tests) in absurd (omega (arith, ints))

-- the high bits of a number in two's complement are its sign
pub int_high : (d : ℕ) (bs : List Bool) → is_within (2 ^ d) (int_of bs) ≡ true → list_all (is_bit (is_negative (int_of bs))) (drop d bs) ≡ true
int_high zero [] h = refl
int_high zero (true ∷ []) h = refl
int_high zero (false ∷ []) h = refl
int_high zero (b ∷ c ∷ bs) h =
    let low = lowest b (int_of (c ∷ bs)) (int_of (b ∷ c ∷ bs)) (int_cons b c bs) h in
    let rest : list_all (is_bit (is_negative (int_of (c ∷ bs)))) (c ∷ bs) ≡ true = int_high zero (c ∷ bs) low.0 in
    let t = is_negative (int_of (b ∷ c ∷ bs)) in
    and_from (is_bit t b) (list_all (is_bit t) (c ∷ bs)) (is_itself t b low.2)
    (subst (λ u. list_all (is_bit u) (c ∷ bs) ≡ true) (sym low.1) rest)
int_high (suc d) [] h = refl
int_high (suc d) (b ∷ []) h = nothing d (is_negative (int_of (b ∷ [])))
  where
    nothing : (k : ℕ) (t : Bool) → list_all (is_bit t) (drop k []) ≡ true
    nothing zero t = refl
    nothing (suc k) t = refl
int_high (suc d) (b ∷ c ∷ bs) h =
    let twice : 2 ^ (suc d) ≡ 2 ^ d + 2 ^ d = power_double d in
    let low = half (2 ^ d) b (int_of (c ∷ bs)) (int_of (b ∷ c ∷ bs)) (int_cons b c bs) (subst (λ (p : ℕ). is_within p (int_of (b ∷ c ∷ bs)) ≡ true) twice h) in
    let rest : list_all (is_bit (is_negative (int_of (c ∷ bs)))) (drop d (c ∷ bs)) ≡ true = int_high d (c ∷ bs) low.0 in
    subst (λ u. list_all (is_bit u) (drop d (c ∷ bs)) ≡ true) (sym low.1) rest

-- SLICES AND RANGES

-- the high bits as a slice
pub high_slice : {A : Type 0} (d : ℕ) (xs : List A) → take (length xs - d) (drop d xs) ≡ drop d xs
high_slice d xs = take_all (length xs - d) (drop d xs) (let e = length-drop d xs in omega arith)

-- no high bits
pub none_high : (t : Bool) (d : ℕ) (xs : List Bool) → length xs ≤ d → list_all (is_bit t) (drop d xs) ≡ true
none_high t d xs h = ap (list_all (is_bit t)) (drop_of_length-le xs {i = d} h)

-- behind the bit that is the sign
pub behind_sign : {B : Type 0} (f : B → Bool) (word : List B) (d : ℕ) (b : B) (t : Bool) → slice_get word d ≡ Some b
    → list_all (is_bit t) (drop d (map f word)) ≡ true → list_all (is_bit (f b)) (drop (d + 1) (map f word)) ≡ true
behind_sign f word d b t e h =
    let whole : drop d (map f word) ≡ f b ∷ drop (d + 1) (map f word) = drop_read f word d b e in
    let parts = and_parts (is_bit t (f b)) (list_all (is_bit t) (drop (d + 1) (map f word))) (sym (ap (list_all (is_bit t)) whole) ∙ h) in
    subst (λ u. list_all (is_bit u) (drop (d + 1) (map f word)) ≡ true) (sym (same_bit t (f b) parts.0)) parts.1

-- a length below both powers
below_both : (n a b : ℕ) → n < 2 ^ a → n < 2 ^ b → n < 2 ^ min a b
below_both n a b h k = elim (cases_lt a b) [
  | inl l ↦ let e : min a b ≡ a = omega arith in rw e h
  | inr l ↦ let e : min a b ≡ b = omega arith in rw e k
]

pub length_high : {B : Type 0} (f : B → Bool) (len : List B) (a d : ℕ) (t : Bool) → d ≡ min a (length len) → t ≡ false → nat_of (map f len) < 2 ^ a
    → list_all (is_bit t) (drop d (map f len)) ≡ true
length_high f len a d t e z h =
    let low : nat_of (map f len) < 2 ^ d = rw e (below_both (nat_of (map f len)) a (length len) h (nat_read_below f len (length len) refl)) in
    subst (λ u. list_all (is_bit u) (drop d (map f len)) ≡ true) (sym z) (nat_high d (map f len) low)
