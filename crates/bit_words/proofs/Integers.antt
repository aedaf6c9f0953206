-- Two's complement: the highest digit counts below zero.
use Rattle.std.proofs.Common.{◌≡◌, ℕ, zero, suc, ◌<◌, ◌≤◌, ◌+◌, ◌*◌, ◌^◌, ◌-◌, ltb, eqb, Bool, true, false, not, ◌&&◌, replicate, List, [], ◌∷◌, ◌++◌, length, map, take, Some, refl, sym, ap, ◌∙◌, arith, length-take, length-append, subst}
use Rattle.std.specs.Prelude.{slice_get, ℤ, pos, negsuc, ◌+ℤ◌}
use Rattle.std.specs.Int.Signed.{lt_z}
use Rattle.std.specs.Ordering.{int_eq}
use Rattle.std.proofs.lemmas.Bool.Decides.{nat_tests, Decides-eqb, Decides-int_eq, Decides-like, same_from_decides}
use Rattle.std.proofs.lemmas.Int.{ints}
use Rattle.std.proofs.lemmas.List.{map_push, length-map, take_all}
use Rattle.bit_words.specs.Bits.{differ, most_of, less_by}
use Rattle.bit_words.specs.Words.{bit_value, nat_of, int_of, is_within}
use Rattle.bit_words.proofs.Kept.{take_read}
use Rattle.bit_words.proofs.Naturals.{power_double}

pub int_cons : (b c : Bool) (bs : List Bool) → int_of (b ∷ c ∷ bs) ≡ pos (bit_value b) +ℤ (int_of (c ∷ bs) +ℤ int_of (c ∷ bs))
int_cons true c bs = refl
int_cons false c bs = refl

-- one bit more at the low end of a list that has some
pub int_low : (b : Bool) (bs : List Bool) → 0 < length bs → int_of (b ∷ bs) ≡ pos (bit_value b) +ℤ (int_of bs +ℤ int_of bs)
int_low b [] h = absurd (omega arith)
int_low b (c ∷ bs) h = int_cons b c bs

-- the highest bit counts below zero
pub int_signed : (bs : List Bool) (t : Bool) → int_of (bs ++ t ∷ []) +ℤ pos (2 ^ length bs * bit_value t) ≡ pos (nat_of bs)
int_signed [] true = refl
int_signed [] false = refl
int_signed (b ∷ bs) t =
    let rest : int_of (bs ++ t ∷ []) +ℤ pos (2 ^ length bs * bit_value t) ≡ pos (nat_of bs) = int_signed bs t in
    let low : int_of (b ∷ (bs ++ t ∷ [])) ≡ pos (bit_value b) +ℤ (int_of (bs ++ t ∷ []) +ℤ int_of (bs ++ t ∷ [])) = int_low b (bs ++ t ∷ []) (simp (length-append) (omega arith)) in
    let product : 2 ^ (suc (length bs)) * bit_value t ≡ 2 ^ length bs * bit_value t + 2 ^ length bs * bit_value t = rw (power_double (length bs)) (omega arith) in
    rw (low, product) (omega (arith, ints))

-- the same of a word's digits
pub int_split : {B : Type 0} (f : B → Bool) (w : List B) (i : ℕ) (b : B) → slice_get w i ≡ Some b → length w ≡ i + 1
    → int_of (map f w) +ℤ pos (2 ^ i * bit_value (f b)) ≡ pos (nat_of (map f (take i w)))
int_split f w i b e long =
    let whole : w ≡ take i w ++ b ∷ [] = sym (take_all (i + 1) w (omega arith)) ∙ take_read w i b e in
    let size : length (map f (take i w)) ≡ i = simp (length-map, length-take) (omega arith) in
    let read : map f w ≡ map f (take i w) ++ f b ∷ [] = ap (map f) whole ∙ map_push f (take i w) b in
    ap (λ (v : List Bool). int_of v +ℤ pos (2 ^ i * bit_value (f b))) read
    ∙ ap (λ (k : ℕ). int_of (map f (take i w) ++ f b ∷ []) +ℤ pos (2 ^ k * bit_value (f b))) (sym size)
    ∙ int_signed (map f (take i w)) (f b)

pub nat_below : (bs : List Bool) → nat_of bs < 2 ^ length bs
nat_below [] = omega arith
nat_below (true ∷ bs) = let rest = nat_below bs in rw (power_double (length bs)) (omega arith)
nat_below (false ∷ bs) = let rest = nat_below bs in rw (power_double (length bs)) (omega arith)

-- which numbers a width holds, from a number that is known up to its sign
pub within : (p : ℕ) (z : ℤ) (n : ℕ) → z +ℤ pos p ≡ pos n → n < p + p → is_within p z ≡ true
within p (pos m) n e h = let lt : m < p = omega (arith, ints) in grind (arith, nat_tests)
within p (negsuc m) n e h = let lt : m < p = omega (arith, ints) in grind (arith, nat_tests)

pub above : (p : ℕ) (z : ℤ) (n : ℕ) → z ≡ pos n → p ≤ n → is_within p z ≡ false
above p (pos m) n e h = let le : p ≤ m = omega (arith, ints) in grind (arith, nat_tests)
above p (negsuc m) n e h = absurd (omega (arith, ints))

pub beneath : (p : ℕ) (z : ℤ) (n : ℕ) → z +ℤ pos p ≡ negsuc n → is_within p z ≡ false
beneath p (pos m) n e = absurd (omega (arith, ints))
beneath p (negsuc m) n e = let le : p ≤ m = omega (arith, ints) in grind (arith, nat_tests)

-- a sum by its digits: it leaves the width exactly where the carry into the highest digit isn't the carry out of it
unfoldable pub Sum : ℕ → Bool → ℤ → ℤ → Type 0
Sum p over z s = (over ≡ not (is_within p z)) × (is_within p z ≡ true → s ≡ z)

pub inside : (p : ℕ) (z s : ℤ) → is_within p z ≡ true → s ≡ z → Sum p false z s
unfolding Sum
inside p z s h e = (ap not (sym h), λ _. e)

pub outside : (p : ℕ) (z s : ℤ) → is_within p z ≡ false → Sum p true z s
unfolding Sum
outside p z s h = (ap not (sym h), λ (k : is_within p z ≡ true). cc)

sum_cases : (p : ℕ) (x y c : Bool) (s z : ℤ) (low n : ℕ) → low < p → low + p * bit_value c ≡ n
    → z +ℤ pos (p * bit_value x + p * bit_value y) ≡ pos n → s +ℤ pos (p * bit_value (differ (differ x y) c)) ≡ pos low
    → Sum p (differ c (most_of x y c)) z s
sum_cases p true true true s z low n h d e f = inside p z s (within p z low (omega (arith, ints)) (omega arith)) (omega (arith, ints))
sum_cases p true true false s z low n h d e f = outside p z s (beneath p z (p - low - 1) (omega (arith, ints)))
sum_cases p true false true s z low n h d e f = inside p z s (within p z (low + p) (omega (arith, ints)) (omega arith)) (omega (arith, ints))
sum_cases p true false false s z low n h d e f = inside p z s (within p z low (omega (arith, ints)) (omega arith)) (omega (arith, ints))
sum_cases p false true true s z low n h d e f = inside p z s (within p z (low + p) (omega (arith, ints)) (omega arith)) (omega (arith, ints))
sum_cases p false true false s z low n h d e f = inside p z s (within p z low (omega (arith, ints)) (omega arith)) (omega (arith, ints))
sum_cases p false false true s z low n h d e f = outside p z s (above p z (low + p) (omega (arith, ints)) (omega arith))
sum_cases p false false false s z low n h d e f = inside p z s (within p z (low + p) (omega (arith, ints)) (omega arith)) (omega (arith, ints))

pub sum_fits : (p : ℕ) (x y c d : Bool) (s a b : ℤ) (low m n : ℕ) → low < p → low + p * bit_value c ≡ m + n + bit_value d
    → a +ℤ pos (p * bit_value x) ≡ pos m → b +ℤ pos (p * bit_value y) ≡ pos n → s +ℤ pos (p * bit_value (differ (differ x y) c)) ≡ pos low
    → (differ c (most_of x y c) ≡ not (is_within p (a +ℤ b +ℤ pos (bit_value d)))) × (is_within p (a +ℤ b +ℤ pos (bit_value d)) ≡ true → s ≡ a +ℤ b +ℤ pos (bit_value d))
unfolding Sum
sum_fits p x y c d s a b low m n h e k l f = sum_cases p x y c s (a +ℤ b +ℤ pos (bit_value d)) low (m + n + bit_value d) h e (omega (arith, ints)) f

-- a highest digit pushed
pub int_pushed : {B : Type 0} (f f' : B → Bool) (w w' : List B) (b : B) (i : ℕ) → length w ≡ i → map f' w ≡ map f w → w' ≡ w ++ b ∷ []
    → int_of (map f' w') +ℤ pos (2 ^ i * bit_value (f' b)) ≡ pos (nat_of (map f w))
int_pushed f f' w w' b i long kept e =
    let size : length (map f w) ≡ i = simp length-map long in
    ap (λ v. int_of (map f' v) +ℤ pos (2 ^ i * bit_value (f' b))) e ∙ ap (λ (v : List Bool). int_of v +ℤ pos (2 ^ i * bit_value (f' b))) (map_push f' w b)
    ∙ ap (λ (v : List Bool). int_of (v ++ f' b ∷ []) +ℤ pos (2 ^ i * bit_value (f' b))) kept
    ∙ ap (λ (k : ℕ). int_of (map f w ++ f' b ∷ []) +ℤ pos (2 ^ k * bit_value (f' b))) (sym size)
    ∙ int_signed (map f w) (f' b)

pub nat_read_below : {B : Type 0} (f : B → Bool) (w : List B) (i : ℕ) → length w ≡ i → nat_of (map f w) < 2 ^ i
nat_read_below f w i long = let size : length (map f w) ≡ i = simp length-map long in subst (λ (k : ℕ). nat_of (map f w) < 2 ^ k) size (nat_below (map f w))

pub bit_not : (b : Bool) → bit_value (not b) + bit_value b ≡ 1
bit_not true = refl
bit_not false = refl

-- the opposites of a word's bits are one less than its opposite
pub int_not : (bs : List Bool) → 0 < length bs → int_of (map not bs) +ℤ int_of bs ≡ negsuc 0
int_not [] h = absurd (omega arith)
int_not (true ∷ []) h = refl
int_not (false ∷ []) h = refl
int_not (b ∷ c ∷ bs) h =
    let rest : int_of (map not (c ∷ bs)) +ℤ int_of (c ∷ bs) ≡ negsuc 0 = int_not (c ∷ bs) (omega arith) in
    let up = int_low b (c ∷ bs) (omega arith) in
    let down = int_low (not b) (map not (c ∷ bs)) (omega arith) in
    let one = bit_not b in
    omega (arith, ints)

pub int_zeros : (n : ℕ) → int_of (replicate n false) ≡ pos 0
int_zeros zero = refl
int_zeros (suc zero) = refl
int_zeros (suc (suc n)) = let rest : int_of (replicate (suc n) false) ≡ pos 0 = int_zeros (suc n) in ap (λ (z : ℤ). pos 0 +ℤ (z +ℤ z)) rest

-- the next digit of a comparison
pub same_step : (p n m : ℕ) (x y alike : Bool) → n < p → m < p → alike ≡ eqb n m → (alike && not (differ x y)) ≡ eqb (n + p * bit_value x) (m + p * bit_value y)
same_step p n m true true alike h k e = rw e (grind (arith, nat_tests))
same_step p n m true false alike h k e = rw e (grind (arith, nat_tests))
same_step p n m false true alike h k e = rw e (grind (arith, nat_tests))
same_step p n m false false alike h k e = rw e (grind (arith, nat_tests))

pub less_step : (p n m : ℕ) (x y below : Bool) → n < p → m < p → below ≡ ltb n m → less_by x y below ≡ ltb (n + p * bit_value x) (m + p * bit_value y)
less_step p n m true true below h k e = rw e (grind (arith, nat_tests))
less_step p n m true false below h k e = grind (arith, nat_tests)
less_step p n m false true below h k e = grind (arith, nat_tests)
less_step p n m false false below h k e = rw e (grind (arith, nat_tests))

-- the highest digits change places, as they count below zero
pub less_top : (p n m : ℕ) (x y below : Bool) (a b : ℤ) → n < p → m < p → below ≡ ltb n m → a +ℤ pos (p * bit_value x) ≡ pos n → b +ℤ pos (p * bit_value y) ≡ pos m
    → less_by y x below ≡ lt_z a b
less_top p n m true true below a b h k e f i = rw e (grind (arith, ints, nat_tests))
less_top p n m true false below a b h k e f i = grind (arith, ints, nat_tests)
less_top p n m false true below a b h k e f i = grind (arith, ints, nat_tests)
less_top p n m false false below a b h k e f i = rw e (grind (arith, ints, nat_tests))

there : (p n m : ℕ) (x y : Bool) (a b : ℤ) → n < p → m < p → a +ℤ pos (p * bit_value x) ≡ pos n → b +ℤ pos (p * bit_value y) ≡ pos m → a ≡ b → n + p * bit_value x ≡ m + p * bit_value y
there p n m true true a b h k f i e = omega (arith, ints)
there p n m true false a b h k f i e = absurd (omega (arith, ints))
there p n m false true a b h k f i e = absurd (omega (arith, ints))
there p n m false false a b h k f i e = omega (arith, ints)

back : (p n m : ℕ) (x y : Bool) (a b : ℤ) → n < p → m < p → a +ℤ pos (p * bit_value x) ≡ pos n → b +ℤ pos (p * bit_value y) ≡ pos m → n + p * bit_value x ≡ m + p * bit_value y → a ≡ b
back p n m true true a b h k f i e = omega (arith, ints)
back p n m true false a b h k f i e = absurd (omega arith)
back p n m false true a b h k f i e = absurd (omega arith)
back p n m false false a b h k f i e = omega (arith, ints)

pub same_top : (p n m : ℕ) (x y : Bool) (a b : ℤ) → n < p → m < p → a +ℤ pos (p * bit_value x) ≡ pos n → b +ℤ pos (p * bit_value y) ≡ pos m
    → eqb (n + p * bit_value x) (m + p * bit_value y) ≡ int_eq a b
same_top p n m x y a b h k f i =
    same_from_decides (eqb (n + p * bit_value x) (m + p * bit_value y)) (int_eq a b) (Decides-eqb (n + p * bit_value x) (m + p * bit_value y))
    (Decides-like (int_eq a b) (there p n m x y a b h k f i) (back p n m x y a b h k f i) (Decides-int_eq a b))

pub bit_small : (b : Bool) → bit_value b ≤ 1
bit_small true = omega arith
bit_small false = omega arith

-- a number without its highest digit, and that digit
pub record Parts (bs : List Bool) (p : ℕ) : Type 0 where
  pub low : ℕ
  pub top : Bool
  pub below : low < p
  pub signed : int_of bs +ℤ pos (p * bit_value top) ≡ pos low
  pub unsigned : nat_of bs ≡ low + p * bit_value top

pub parts : (bs : List Bool) (n : ℕ) → length bs ≡ suc n → Parts bs (2 ^ n)
parts [] n e = absurd (omega arith)
parts (true ∷ []) zero e = record { low = 0; top = true; below = omega arith; signed = refl; unsigned = refl }
parts (false ∷ []) zero e = record { low = 0; top = false; below = omega arith; signed = refl; unsigned = refl }
parts (b ∷ []) (suc n) e = absurd (omega arith)
parts (b ∷ c ∷ bs) zero e = absurd (omega arith)
parts (b ∷ c ∷ bs) (suc n) e =
    let r = parts (c ∷ bs) n (omega arith) in
    let l = int_cons b c bs in
    let product : 2 ^ (suc n) * bit_value r.top ≡ 2 ^ n * bit_value r.top + 2 ^ n * bit_value r.top = rw (power_double n) (omega arith) in
    let bit : bit_value b ≤ 1 = bit_small b in
    record {
      low = bit_value b + (r.low + r.low);
      top = r.top;
      below = rw (power_double n) (omega arith);
      signed = rw (l, product) (omega (arith, ints));
      unsigned = rw product (omega arith);
    }

pub same_numbers : (bs cs : List Bool) → 0 < length bs → length cs ≡ length bs → eqb (nat_of bs) (nat_of cs) ≡ int_eq (int_of bs) (int_of cs)
same_numbers bs cs some e =
    let n : ℕ = length bs - 1 in
    let l = parts bs n (omega arith) in
    let r = parts cs n (omega arith) in
    rw (l.unsigned, r.unsigned) (same_top (2 ^ n) l.low r.low l.top r.top (int_of bs) (int_of cs) l.below r.below l.signed r.signed)

pub nat_taken_below : {B : Type 0} (f : B → Bool) (w : List B) (i : ℕ) → i ≤ length w → nat_of (map f (take i w)) < 2 ^ i
nat_taken_below f w i h = nat_read_below f (take i w) i (simp length-take (omega arith))
