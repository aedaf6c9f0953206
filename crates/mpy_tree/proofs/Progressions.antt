-- The numbers of a range.
use Rattle.std.proofs.Common.{◌≡◌, ℕ, zero, suc, Bool, if◌then◌else◌, ◌+◌, ◌*◌, ◌/◌, ◌<◌, ◌≤◌, true, false, List, [], ◌∷◌, ◌++◌, length, get_or, ℤ, pos, negsuc, ◌+ℤ◌, ◌-ℤ◌, ◌*ℤ◌, ◌<ℤ◌, nat_abs, FitsSigned, w32, refl, arith, add-one}
use native.Mathlib.Numerals.{unary_clauses}
use Rattle.std.proofs.Math.Nat.{le-div_iff_mul-le}
use Rattle.std.proofs.lemmas.Int.{ints}
use Rattle.std.proofs.lemmas.List.{map-append}
use Rattle.mpy_tree.specs.declared.limits.Limits.{Limits}
use Rattle.mpy_tree.specs.Expressions.{range_of_numbers}
use Rattle.mpy_tree.specs.Operations.{range, before, ahead, range_count, below, progression}

-- one number more at the end
pub progression_more : (a c : ℤ) (n : ℕ) → progression a c (n + 1) ≡ progression a c n ++ (a +ℤ (c *ℤ pos n)) ∷ []
progression_more a c n = rw add-one (map-append (λ k. a +ℤ (c *ℤ pos k)) (below n) (n ∷ []))

-- a place below the count is a step or more below the distance
step_within : (d m k : ℕ) → k < (d + m) / suc m → k * suc m < d
step_within d m k h =
    let all : (k + 1) * suc m ≤ d + m = (le-div_iff_mul-le {k = suc m} {x = k + 1} {y = d + m} (omega arith)).0 (omega arith) in
    let more : (k + 1) * suc m ≡ k * suc m + suc m = grind arith in
    omega arith

up : (a b : ℤ) (d p : ℕ) → a <ℤ b → d ≡ nat_abs (b -ℤ a) → p < d → FitsSigned w32 a → FitsSigned w32 b → FitsSigned w32 (a +ℤ pos p)
up a b d p h e l f g = grind (arith, ints)

down : (a b : ℤ) (d p : ℕ) → b <ℤ a → d ≡ nat_abs (b -ℤ a) → p < d → FitsSigned w32 a → FitsSigned w32 b → FitsSigned w32 (a -ℤ pos p)
down a b d p h e l f g = grind (arith, ints)

-- one step more
pub step_more : (a c : ℤ) (k : ℕ) → (a +ℤ (c *ℤ pos k)) +ℤ c ≡ a +ℤ (c *ℤ pos (k + 1))
step_more a c k = grind (arith, ints)

by_test : (t : Bool) (d n : ℕ) → d ≡ (if t then n else 0) → 0 < d → (t ≡ true) × (d ≡ n)
by_test true d n e h = (refl, e)
by_test false d n e h = absurd (omega arith)

-- each number of a range is one of 32 bits, as its start and its end are
pub number_fits : (a b c : ℤ) (k : ℕ) → (c ≡ pos 0 → ⊥) → k < range_count a b c → FitsSigned w32 a → FitsSigned w32 b → FitsSigned w32 (a +ℤ (c *ℤ pos k))
number_fits a b (pos zero) k nonzero h f g = absurd (nonzero refl)
number_fits a b (pos (suc m)) k nonzero h f g =
    let d = ahead a b (pos (suc m)) in
    let within : k * suc m < d = step_within d m k (simp unary_clauses at h) in
    let t = by_test (before (pos (suc m)) a b) d (nat_abs (b -ℤ a)) refl (omega arith) in
    let stands : a <ℤ b = grind (arith, ints, t.0) in
    let is : pos (suc m) *ℤ pos k ≡ pos (k * suc m) = grind (arith, ints) in
    rw is (up a b d (k * suc m) stands t.1 within f g)
number_fits a b (negsuc m) k nonzero h f g =
    let d = ahead a b (negsuc m) in
    let within : k * suc m < d = step_within d m k (simp unary_clauses at h) in
    let t = by_test (before (negsuc m) a b) d (nat_abs (b -ℤ a)) refl (omega arith) in
    let stands : b <ℤ a = grind (arith, ints, t.0) in
    let is : a +ℤ (negsuc m *ℤ pos k) ≡ a -ℤ pos (k * suc m) = grind (arith, ints) in
    rw is (down a b d (k * suc m) stands t.1 within f g)

-- `range` of three numbers
pub range_of_three : (l : Limits) (zs : List ℤ) → 3 ≤ length zs → length zs < 4 → range_of_numbers l zs ≡ range l (get_or zs 0 (pos 0)) (get_or zs 1 (pos 0)) (get_or zs 2 (pos 0))
range_of_three l [] low high = absurd (omega arith)
range_of_three l (a ∷ []) low high = absurd (omega arith)
range_of_three l (a ∷ b ∷ []) low high = absurd (omega arith)
range_of_three l (a ∷ b ∷ c ∷ []) low high = refl
range_of_three l (a ∷ b ∷ c ∷ d ∷ zs) low high = absurd (omega arith)
