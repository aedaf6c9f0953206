-- Splits, and the cases that values belong to.
use Rattle.std.proofs.Common.{◌≡◌, ◌∙◌, ℕ, zero, suc, ◌+◌, ◌-◌, ◌*◌, ◌/◌, ◌%◌, ◌<◌, ◌≤◌, ◌==◌, true, ◌||◌, List, [], ◌∷◌, ◌++◌, length, take, refl, sym, ap, arith}
use Rattle.std.specs.List.{AllZip}
use Rattle.std.specs.Prelude.{nat_le}
use Rattle.std.proofs.lemmas.Bool.{and_parts, eq-eqb, leb-true, or_left, or_right}
use Rattle.std.proofs.Math.Nat.{mul_assoc, mul-le-mul_left, mul-le-mul_right}
use Rattle.std.proofs.lemmas.Nat.{div-mul-add, mod-mul-add, mul-add-lt}
use Rattle.mpy_tree.specs.declared.value.Value.{Value}
use Rattle.mpy_tree.specs.declared.value.Value.TheVariants as value
use Rattle.bounds_reader.specs.declared.params.Param.{Param}
use Rattle.bounds_reader.specs.declared.params.Param.TheVariants as param
use Rattle.input_bits.specs.declared.parts.Split.{Split}
use Rattle.input_bits.specs.Cases.{Covers, CoversLengths, SomeCase, cases, has_length_of, is_in_part}
use Rattle.input_space.specs.Inputs.{are_within, has_length, is_within}

-- PARTS

pub covered : (first parts n : ℕ) → first ≤ n → n < first + parts → (part : ℕ) × (part < parts) × ((parts == 1 || n == first + part) ≡ true)
covered first parts n h k =
    let at : n ≡ first + (n - first) = omega arith in
    (n - first, omega arith, or_right (parts == 1) (n == first + (n - first)) (eq-eqb n (first + (n - first)) at))

pub whole : (s : Split) (n : ℕ) → s.parts ≡ 1 → (part : ℕ) × (part < s.parts) × (has_length_of s part n ≡ true)
whole s n e = (0, omega arith, or_left (s.parts == 1) (n == s.first + 0) (eq-eqb s.parts 1 e))

-- the parts of the lengths are those of the lists and texts
pub covers_lists : (s : Split) (least most : ℕ) (low high : _) → CoversLengths s least most → Covers s (param.List least most low high)
covers_lists s least most low high h (value.List zs) e =
    let fits = (and_parts (has_length least most zs) _ e).0 in
    let ends = and_parts (nat_le least (length zs)) (nat_le (length zs) most) fits in
    h (length zs) (leb-true least (length zs) ends.0) (leb-true (length zs) most ends.1)
covers_lists s least most low high h (value.Int z) e = cc
covers_lists s least most low high h (value.Bool b) e = cc
covers_lists s least most low high h (value.Text cs) e = cc

pub covers_texts : (s : Split) (least most : ℕ) (alphabet : List ℕ) → CoversLengths s least most → Covers s (param.Text least most alphabet)
covers_texts s least most alphabet h (value.Text cs) e =
    let fits = (and_parts (has_length least most cs) _ e).0 in
    let ends = and_parts (nat_le least (length cs)) (nat_le (length cs) most) fits in
    h (length cs) (leb-true least (length cs) ends.0) (leb-true (length cs) most ends.1)
covers_texts s least most alphabet h (value.Int z) e = cc
covers_texts s least most alphabet h (value.Bool b) e = cc
covers_texts s least most alphabet h (value.List zs) e = cc

-- one part covers all values
pub covers_all : (s : Split) (p : Param) → s.parts ≡ 1 → Covers s p
covers_all s p e (value.Int z) h = (0, omega arith, refl)
covers_all s p e (value.Bool b) h = (0, omega arith, refl)
covers_all s p e (value.List zs) h = whole s (length zs) e
covers_all s p e (value.Text cs) h = whole s (length cs) e

-- SEVERAL SPLITS

pub zip_more : {A C : Type 0} (R : A → C → Type 0) (xs : List A) (ys : List C) (x : A) (y : C) → AllZip R xs ys → R x y → AllZip R (xs ++ x ∷ []) (ys ++ y ∷ [])
zip_more R [] [] x y h k = (k, tt)
zip_more R [] (b ∷ ys) x y h k = absurd h
zip_more R (a ∷ xs) [] x y h k = absurd h
zip_more R (a ∷ xs) (b ∷ ys) x y h k = (h.0, zip_more R xs ys x y h.1 k)

pub cases_more : (ss : List Split) (s : Split) → cases (ss ++ s ∷ []) ≡ cases ss * s.parts
cases_more [] s = omega arith
cases_more (r ∷ ss) s =
    let rest : cases (ss ++ s ∷ []) ≡ cases ss * s.parts = cases_more ss s in
    ap (λ k. r.parts * k) rest ∙ sym (mul_assoc r.parts (cases ss) s.parts)

pub some_cases : (ss : List Split) → 0 < cases ss
some_cases [] = omega arith
some_cases (s ∷ ss) =
    let one = s.some in
    let rest = some_cases ss in
    let least : 1 * cases ss ≤ s.parts * cases ss = mul-le-mul_right (cases ss) one in
    omega arith

pub cases_taken : (ss : List Split) (i : ℕ) → cases (take i ss) ≤ cases ss
cases_taken [] zero = omega arith
cases_taken [] (suc i) = omega arith
cases_taken (s ∷ ss) zero = some_cases (s ∷ ss)
cases_taken (s ∷ ss) (suc i) = mul-le-mul_left s.parts (cases_taken ss i)

-- SOME CASE

-- each value is in a part
abbrev pub HaveParts : List Split → List Value → Type 0
HaveParts [] [] = Unit {0}
HaveParts (s ∷ ss) (v ∷ vs) = ((part : ℕ) × (part < s.parts) × (is_in_part s part v ≡ true)) × HaveParts ss vs
HaveParts _ _ = ⊥

some_case : (ss : List Split) (vs : List Value) → HaveParts ss vs → SomeCase ss vs
some_case [] [] h = record { number = 0; below = omega arith; is_in = refl }
some_case [] (v ∷ vs) h = absurd h
some_case (s ∷ ss) [] h = absurd h
some_case (s ∷ ss) (v ∷ vs) h =
    let rest = some_case ss vs h.1 in
    let part = h.0.0 in
    let low : (rest.number * s.parts + part) % s.parts ≡ part = mod-mul-add rest.number s.parts part h.0.1 in
    let high : (rest.number * s.parts + part) / s.parts ≡ rest.number = div-mul-add rest.number s.parts part h.0.1 in
    record {
      number = rest.number * s.parts + part;
      below = mul-add-lt rest.number s.parts part (cases ss) rest.below h.0.1;
      is_in = rw (low, high) (rw (h.0.2, rest.is_in) refl);
    }

have_parts : (ss : List Split) (ps : List Param) (vs : List Value) → AllZip Covers ss ps → are_within ps vs ≡ true → HaveParts ss vs
have_parts [] [] [] h e = tt
have_parts [] [] (v ∷ vs) h e = cc
have_parts [] (p ∷ ps) vs h e = absurd h
have_parts (s ∷ ss) [] vs h e = absurd h
have_parts (s ∷ ss) (p ∷ ps) [] h e = cc
have_parts (s ∷ ss) (p ∷ ps) (v ∷ vs) h e =
    let parts = and_parts (is_within p v) (are_within ps vs) e in
    (h.0 v parts.0, have_parts ss ps vs h.1 parts.1)

pub values_have_cases : (ss : List Split) (ps : List Param) (vs : List Value) → AllZip Covers ss ps → are_within ps vs ≡ true → SomeCase ss vs
values_have_cases ss ps vs h e = some_case ss vs (have_parts ss ps vs h e)
