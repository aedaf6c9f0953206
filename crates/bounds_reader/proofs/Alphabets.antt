-- Characters that stand twice.
use Rattle.std.proofs.Common.{◌≡◌, ℕ, ◌+◌, true, false, List, [], ◌∷◌, ◌++◌, refl, subst, ◌∙◌, inl, inr, arith}
use Rattle.std.specs.Prelude.{◌==◌}
use Rattle.std.specs.List.{list_any}
use Rattle.std.proofs.lemmas.List.Folds.{list_any-append}
use Rattle.std.proofs.lemmas.Bool.{or_cases, or_left, or_right, or_parts, or_from, eqb-true, eq-eqb}
use Rattle.bounds_reader.specs.Ranges.{has_twice}

eqb_sym : (a b : ℕ) → (a == b) ≡ (b == a)
eqb_sym a b = grind arith

stands : (x : ℕ) (front back : List ℕ) → list_any (λ d. d == x) (front ++ x ∷ back) ≡ true
stands x front back =
    list_any-append (λ d. d == x) front (x ∷ back)
    ∙ or_right (list_any (λ d. d == x) front) (list_any (λ d. d == x) (x ∷ back)) (or_left (x == x) (list_any (λ d. d == x) back) (eq-eqb x x refl))

-- a character that stands in front of another such
pub twice_found : (front : List ℕ) (c : ℕ) (back : List ℕ) → list_any (λ d. d == c) front ≡ true → has_twice (front ++ c ∷ back) ≡ true
twice_found [] c back h = absurd cc
twice_found (x ∷ front) c back h = elim (or_cases (x == c) (list_any (λ d. d == c) front) h) [
  | inl same ↦ let e : x ≡ c = eqb-true x c same in
      or_left (list_any (λ d. d == x) (front ++ c ∷ back)) (has_twice (front ++ c ∷ back)) (subst (λ y. list_any (λ d. d == x) (front ++ y ∷ back) ≡ true) e (stands x front back))
  | inr more ↦ or_right (list_any (λ d. d == x) (front ++ c ∷ back)) (has_twice (front ++ c ∷ back)) (twice_found front c back more)
]

pub twice_not : (xs : List ℕ) (c : ℕ) → has_twice xs ≡ false → list_any (λ d. d == c) xs ≡ false → has_twice (xs ++ c ∷ []) ≡ false
twice_not [] c h n = refl
twice_not (x ∷ xs) c h n =
    let before = or_parts (list_any (λ d. d == x) xs) (has_twice xs) h in
    let other = or_parts (x == c) (list_any (λ d. d == c) xs) n in
    or_from (list_any (λ d. d == x) (xs ++ c ∷ [])) (has_twice (xs ++ c ∷ []))
    (list_any-append (λ d. d == x) xs (c ∷ []) ∙ or_from (list_any (λ d. d == x) xs) (list_any (λ d. d == x) (c ∷ [])) before.0 (or_from (c == x) false (eqb_sym c x ∙ other.0) refl))
    (twice_not xs c before.1 other.1)
