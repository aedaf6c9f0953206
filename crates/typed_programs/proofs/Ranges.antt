-- The numbers of a range fit the width that its start and its end fit.
use Rattle.std.proofs.Common.{◌≡◌, ℕ, zero, suc, ◌+◌, ◌-◌, ◌*◌, ◌/◌, ◌^◌, ◌<◌, ◌≤◌, Bool, true, false, [], ◌∷◌, length, length-append, if◌then◌else◌, ℤ, pos, negsuc, ◌+ℤ◌, ◌-ℤ◌, ◌*ℤ◌, ◌<ℤ◌, ◌≤ℤ◌, nat_abs, refl, ◌∙◌, arith}
use native.Mathlib.Numerals.{unary_clauses}
use Rattle.std.specs.List.{list_all}
use Rattle.std.proofs.Math.Nat.{le-div_iff_mul-le}
use Rattle.std.proofs.lemmas.Bool.{ltb-true, lt-ltb}
use Rattle.std.proofs.lemmas.Int.{ints}
use Rattle.std.proofs.lemmas.List.{length-map}
use Rattle.std.proofs.lemmas.List.Folds.{list_all-append, list_all-map}
use Rattle.mpy_tree.specs.Operations.{fits_width, before, ahead, range_count, below, progression}

-- a number from one that fits to another fits
between : (w : ℕ) (a b x : ℤ) → a ≤ℤ x → x ≤ℤ b → fits_width w a ≡ true → fits_width w b ≡ true → fits_width w x ≡ true
between w a (pos m) (pos n) h k f g =
    let less : m < 2 ^ (w - 1) = ltb-true m (2 ^ (w - 1)) g in
    let least : n ≤ m = grind (arith, ints) in
    lt-ltb n (2 ^ (w - 1)) (omega arith)
between w a (negsuc m) (pos n) h k f g = absurd (grind (arith, ints))
between w (negsuc m) b (negsuc n) h k f g =
    let less : m < 2 ^ (w - 1) = ltb-true m (2 ^ (w - 1)) f in
    let least : n ≤ m = grind (arith, ints) in
    lt-ltb n (2 ^ (w - 1)) (omega arith)
between w (pos m) b (negsuc n) h k f g = absurd (grind (arith, ints))

-- a place below the count is a step or more below the distance
step_within : (d m k : ℕ) → k < (d + m) / suc m → k * suc m < d
step_within d m k h =
    let all : (k + 1) * suc m ≤ d + m = (le-div_iff_mul-le {k = suc m} {x = k + 1} {y = d + m} (omega arith)).0 (omega arith) in
    let more : (k + 1) * suc m ≡ k * suc m + suc m = grind arith in
    omega arith

above : (a b : ℤ) (d p : ℕ) → a <ℤ b → d ≡ nat_abs (b -ℤ a) → p < d → (a ≤ℤ (a +ℤ pos p)) × ((a +ℤ pos p) ≤ℤ b)
above a b d p h e l = (grind (arith, ints), grind (arith, ints))

beneath : (a b : ℤ) (d p : ℕ) → b <ℤ a → d ≡ nat_abs (b -ℤ a) → p < d → (b ≤ℤ (a -ℤ pos p)) × ((a -ℤ pos p) ≤ℤ a)
beneath a b d p h e l = (grind (arith, ints), grind (arith, ints))

by_test : (t : Bool) (d n : ℕ) → d ≡ (if t then n else 0) → 0 < d → (t ≡ true) × (d ≡ n)
by_test true d n e h = (refl, e)
by_test false d n e h = absurd (omega arith)

number_fits : (w : ℕ) (a b c : ℤ) (k : ℕ) → (c ≡ pos 0 → ⊥) → k < range_count a b c → fits_width w a ≡ true → fits_width w b ≡ true → fits_width w (a +ℤ (c *ℤ pos k)) ≡ true
number_fits w a b (pos zero) k nonzero h f g = absurd (nonzero refl)
number_fits w a b (pos (suc m)) k nonzero h f g =
    let d = ahead a b (pos (suc m)) in
    let within : k * suc m < d = step_within d m k (simp unary_clauses at h) in
    let t = by_test (before (pos (suc m)) a b) d (nat_abs (b -ℤ a)) refl (omega arith) in
    let stands : a <ℤ b = grind (arith, ints, t.0) in
    let is : pos (suc m) *ℤ pos k ≡ pos (k * suc m) = grind (arith, ints) in
    let near = above a b d (k * suc m) stands t.1 within in
    rw is (between w a b (a +ℤ pos (k * suc m)) near.0 near.1 f g)
number_fits w a b (negsuc m) k nonzero h f g =
    let d = ahead a b (negsuc m) in
    let within : k * suc m < d = step_within d m k (simp unary_clauses at h) in
    let t = by_test (before (negsuc m) a b) d (nat_abs (b -ℤ a)) refl (omega arith) in
    let stands : b <ℤ a = grind (arith, ints, t.0) in
    let is : a +ℤ (negsuc m *ℤ pos k) ≡ a -ℤ pos (k * suc m) = grind (arith, ints) in
    let near = beneath a b d (k * suc m) stands t.1 within in
    rw is (between w b a (a -ℤ pos (k * suc m)) near.0 near.1 g f)

-- a test that each number below a bound passes
all_below : (p : ℕ → Bool) (n : ℕ) → ((k : ℕ) → k < n → p k ≡ true) → list_all p (below n) ≡ true
all_below p zero h = refl
all_below p (suc n) h =
    let here : p n ≡ true = h n (omega arith) in
    let rest : list_all p (below n) ≡ true = all_below p n (λ k m. h k (omega arith)) in
    rw (list_all-append p (below n) (n ∷ []), rest, here) refl

pub numbers_fit : (w : ℕ) (a b c : ℤ) → (c ≡ pos 0 → ⊥) → fits_width w a ≡ true → fits_width w b ≡ true → list_all (fits_width w) (progression a c (range_count a b c)) ≡ true
numbers_fit w a b c nonzero f g =
    list_all-map (fits_width w) (λ k. a +ℤ (c *ℤ pos k)) (below (range_count a b c))
    ∙ all_below (λ k. fits_width w (a +ℤ (c *ℤ pos k))) (range_count a b c) (λ k h. number_fits w a b c k nonzero h f g)

-- so many numbers
below_length : (n : ℕ) → length (below n) ≡ n
below_length zero = refl
below_length (suc n) = let e : length (below n) ≡ n = below_length n in rw (length-append (below n) (n ∷ []), e) (omega arith)

pub progression_length : (a c : ℤ) (n : ℕ) → length (progression a c n) ≡ n
progression_length a c n = length-map (below n) (λ k. a +ℤ (c *ℤ pos k)) ∙ below_length n
