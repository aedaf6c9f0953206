-- Lengths that pass a limit, and lengths that are masked.
use Rattle.std.proofs.Common.{◌≡◌, ℕ, ◌+◌, ◌*◌, ◌<◌, ◌≤◌, Bool, true, false, List, [], ◌∷◌, map, refl, ap, ◌∙◌, arith, ltb, inl, inr}
use Rattle.std.specs.Prelude.{not, ◌&&◌, ◌||◌, nat_le}
use Rattle.std.proofs.lemmas.Bool.{cases_lt, leb-true}
use Rattle.std.proofs.lemmas.Bool.Decides.{nat_tests}
use Rattle.bit_words.specs.Words.{bit_value, nat_of}

pub all_kept : (t : Bool) (v : List Bool) → t ≡ true → nat_of (map (λ b. t && b) v) ≡ nat_of v
all_kept true [] e = refl
all_kept true (x ∷ v) e = let rest = all_kept true v refl in ap (λ (n : ℕ). bit_value x + (n + n)) rest
all_kept false v e = cc

pub none_kept : (t : Bool) (v : List Bool) → t ≡ false → nat_of (map (λ b. t && b) v) ≡ 0
none_kept true v e = cc
none_kept false [] e = refl
none_kept false (x ∷ v) e = let rest = none_kept false v refl in ap (λ (n : ℕ). 0 + (n + n)) rest ∙ omega arith

pub passes : (n s cap : ℕ) → s ≡ n → not (ltb s (cap + 1)) ≡ not (nat_le n cap)
passes n s cap e = elim (cases_lt s (cap + 1)) [
  | inl h ↦ let le : n ≤ cap = omega arith in grind (arith, nat_tests)
  | inr h ↦ let lt : cap < n = omega arith in grind (arith, nat_tests)
]

pub far_past : (n cap : ℕ) → cap < n → true ≡ not (nat_le n cap)
far_past n cap h = grind (arith, nat_tests)

pub passes_as : (n s cap : ℕ) (c : Bool) → s + 32 * bit_value c ≡ n → cap ≤ 16 → (c || not (ltb s (cap + 1))) ≡ not (nat_le n cap)
passes_as n s cap true e h = far_past n cap (omega arith)
passes_as n s cap false e h = passes n s cap (omega arith)

pub within_bits : (n s cap : ℕ) (c : Bool) → s + 32 * bit_value c ≡ n → cap ≤ 16 → nat_le n cap ≡ true → s ≡ n
within_bits n s cap true e h k = let le = leb-true n cap k in absurd (omega arith)
within_bits n s cap false e h k = omega arith

not_back : (b : Bool) → false ≡ not b → b ≡ true
not_back true e = refl
not_back false e = cc

pub not_false : (b : Bool) → b ≡ true → not b ≡ false
not_false b e = ap not e

-- a checked length is within the limit, whichever its fault is
pub at_most : (fault : Bool) (n len cap : ℕ) → fault ≡ not (nat_le n cap) → (fault ≡ true → len ≡ 0) → (nat_le n cap ≡ true → len ≡ n) → len ≤ cap
at_most true n len cap e none value = let zero = none refl in omega arith
at_most false n len cap e none value = let small : nat_le n cap ≡ true = not_back (nat_le n cap) e in let le = leb-true n cap small in let same = value small in omega arith
