-- What is read as a number at the front of a text stands there, and what stands there is read.
use Rattle.std.proofs.Common.{◌≡◌, ◌<◌, ◌≤◌, ◌^◌, ℕ, zero, suc, true, List, [], ◌∷◌, ◌++◌, length, take, drop, Some, refl, sym, ap, subst, ◌∙◌, ℤ, pos, negsuc, inl, inr, arith}
use Rattle.std.specs.Prelude.{◌==◌}
use Rattle.std.specs.Char.{is_ascii_digit}
use Rattle.std.specs.Fmt.{decimal, signed_decimal}
use Rattle.std.specs.List.{list_all}
use Rattle.std.proofs.lemmas.Bool.{and_parts, eqb-true, lt-ltb, ltb-true, cases_Bool}
use Rattle.std.proofs.lemmas.List.{take_at, drop_at, take-append-drop}
use Rattle.std.proofs.lemmas.Fmt.{decimal_nonempty}
use Rattle.mpy_tree.specs.Operations.{fits_width}
use Rattle.bounds_reader.specs.Scanning.{◌>>=◌, numeral_of, digits_len, numeral_at, negated, negated_at, unsigned_at, signed_at}
use Rattle.bounds_reader.proofs.Digits.{Stops, numeral_takes, numeral_again, decimal_digits, is_no_minus, prefix-append, prefix_passes}
use Rattle.bounds_reader.proofs.Steps.{bind_some, map_some}

pub numeral_at_takes : (limit : ℕ) (text : List ℕ) (x : ℕ × List ℕ) → limit < 2 ^ 64 → numeral_at limit text ≡ Some x → (text ≡ decimal x.0 ++ x.1) × (x.0 ≤ limit)
unfolding numeral_at
numeral_at_takes limit text x small e =
    let n = digits_len text in
    let b = map_some (λ k. (k, drop n text)) (numeral_of limit (take n text)) x e in
    let taken = numeral_takes limit (take n text) b.0 small (prefix_passes is_ascii_digit text) b.1 in
    rw (← b.2) (sym (take-append-drop n text) ∙ ap (λ t. t ++ drop n text) taken.0, taken.1)

pub numeral_at_again : (limit n : ℕ) (rest : List ℕ) → limit < 2 ^ 32 → n ≤ limit → Stops is_ascii_digit rest → numeral_at limit (decimal n ++ rest) ≡ Some (n, rest)
unfolding numeral_at
numeral_at_again limit n rest small within stops =
    let len = prefix-append is_ascii_digit (decimal n) rest (decimal_digits n (omega arith)) stops in
    rw (len, take_at (decimal n) rest (length (decimal n)) refl, drop_at (decimal n) rest (length (decimal n)) refl, numeral_again limit n small within) refl

-- a number behind a minus
negated_takes : (n : ℕ) (z : ℤ) (rest : List ℕ) → negated n ≡ Some z → n ≤ 2147483648 → (45 ∷ (decimal n ++ rest) ≡ signed_decimal z ++ rest) × (fits_width 32 z ≡ true)
negated_takes zero z rest e h = absurd cc
negated_takes (suc m) z rest e h =
    let is : negsuc m ≡ z = cc in
    rw (← is) (refl, lt-ltb m (2 ^ 31) (omega arith))

pub signed_takes : (text : List ℕ) (x : ℤ × List ℕ) → signed_at text ≡ Some x → (text ≡ signed_decimal x.0 ++ x.1) × (fits_width 32 x.0 ≡ true)
unfolding signed_at
signed_takes [] x e = absurd cc
signed_takes (c ∷ rest) x e = elim (cases_Bool (c == 45)) [
  | inl minus ↦ behind_minus (eqb-true c 45 minus) (rw minus at e)
  | inr plain ↦ unsigned (rw plain at e)
]
  where
    behind_minus : c ≡ 45 → negated_at rest ≡ Some x → (c ∷ rest ≡ signed_decimal x.0 ++ x.1) × (fits_width 32 x.0 ≡ true)
    behind_minus is found =
        let n = bind_some (numeral_at 2147483648 rest) (λ n. negated n.0 >>= λ z. Some (z, n.1)) x found in
        let z = bind_some (negated n.0.0) (λ z. Some (z, n.0.1)) x n.2 in
        let taken = numeral_at_takes 2147483648 rest n.0 (omega arith) n.1 in
        let same : ◌≡◌ {A = ℤ × List ℕ} (z.0, n.0.1) x = cc in
        let at_end = negated_takes n.0.0 z.0 n.0.1 z.1 taken.1 in
        let front : c ∷ rest ≡ 45 ∷ (decimal n.0.0 ++ n.0.1) = ap (λ d. d ∷ rest) is ∙ ap (λ (t : List ℕ). 45 ∷ t) taken.0 in
        subst (λ (y : ℤ × List ℕ). (c ∷ rest ≡ signed_decimal y.0 ++ y.1) × (fits_width 32 y.0 ≡ true)) same (front ∙ at_end.0, at_end.1)

    unsigned : unsigned_at (c ∷ rest) ≡ Some x → (c ∷ rest ≡ signed_decimal x.0 ++ x.1) × (fits_width 32 x.0 ≡ true)
    unsigned found =
        let n = map_some (λ n. (pos n.0, n.1)) (numeral_at 2147483647 (c ∷ rest)) x found in
        let taken = numeral_at_takes 2147483647 (c ∷ rest) n.0 (omega arith) n.1 in
        subst (λ (y : ℤ × List ℕ). (c ∷ rest ≡ signed_decimal y.0 ++ y.1) × (fits_width 32 y.0 ≡ true)) n.2 (taken.0, lt-ltb n.0.0 (2 ^ 31) (omega (arith, taken.1)))

no_minus : (ds rest : List ℕ) → list_all is_ascii_digit ds ≡ true → 0 < length ds → signed_at (ds ++ rest) ≡ unsigned_at (ds ++ rest)
unfolding signed_at
no_minus [] rest all some = absurd (omega arith)
no_minus (c ∷ cs) rest all some = rw (is_no_minus c (and_parts (is_ascii_digit c) (list_all is_ascii_digit cs) all).0) refl

pub signed_again : (z : ℤ) (rest : List ℕ) → fits_width 32 z ≡ true → Stops is_ascii_digit rest → signed_at (signed_decimal z ++ rest) ≡ Some (z, rest)
unfolding signed_at
signed_again (pos n) rest fits stops =
    let small : n < 2 ^ 31 = ltb-true n (2 ^ 31) fits in
    let number = numeral_at_again 2147483647 n rest (omega arith) (omega arith) stops in
    no_minus (decimal n) rest (decimal_digits n (omega arith)) (decimal_nonempty n (omega arith)) ∙ rw number refl
signed_again (negsuc m) rest fits stops =
    let small : m < 2 ^ 31 = ltb-true m (2 ^ 31) fits in
    let number = numeral_at_again 2147483648 (suc m) rest (omega arith) (omega arith) stops in
    rw number refl
