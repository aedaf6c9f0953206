-- The digits of numbers.
use Rattle.std.proofs.Common.{◌≡◌, ◌+◌, ◌*◌, ◌-◌, ◌<◌, ◌≤◌, ◌^◌, ℕ, zero, suc, true, false, Bool, List, [], ◌∷◌, ◌++◌, length, get_or, take, drop, Some, refl, sym, ap, cond, rules, inl, inr, arith}
use Rattle.std.specs.Prelude.{◌&&◌, ◌||◌, nat_le, not, ◌==◌}
use Rattle.std.specs.Char.{is_ascii_digit}
use Rattle.std.specs.Fmt.{decimal}
use Rattle.std.specs.List.{list_all, fold, prefix_len}
use Rattle.std.proofs.lemmas.List.Recursion.{and_at}
use Rattle.std.proofs.lemmas.Bool.{false≢true, and_parts, and_from, or_cases, or_left, or_right, not-true, not_from_false, leb-true, le-leb, eqb-true, eqb-false, eq-eqb, ne_eqb, cases_eq}
use Rattle.std.proofs.lemmas.Option.{cond_some}
use Rattle.std.proofs.lemmas.Str.Parse.{IsNumeralModel, numerals_by_fold}
use Rattle.std.proofs.lemmas.Fmt.{digits_decimal, digits_value-decimal, decimal_nonempty, first_decimal, decimal_digit, decimal-digits_value, length-decimal-le}
use Rattle.mpy_lexer.specs.Pieces.{number_value}
use Rattle.bounds_reader.specs.Scanning.{is_numeral, numeral_of}

-- the number that the digits write when they follow those of n
abbrev pub value_from : ℕ → List ℕ → ℕ
value_from n ds = fold (λ n c. n * 10 + (c - 48)) n ds

pub digit_within : (ds : List ℕ) (i : ℕ) → list_all is_ascii_digit ds ≡ true → i < length ds → (48 ≤ get_or ds i 0) × (get_or ds i 0 ≤ 57)
digit_within ds i all lt =
    let one = and_at (list_all is_ascii_digit) is_ascii_digit refl (λ _ _. refl) ds i 0 lt all in
    let both = and_parts _ _ one in
    (leb-true _ _ both.0, leb-true _ _ both.1)

own : IsNumeralModel (λ ds. list_all is_ascii_digit ds ≡ true) number_value
own = numerals_by_fold _ (search rules) value_from (search rules)

-- digits that are read as a number are how the number is written
pub is_written : (ds : List ℕ) → list_all is_ascii_digit ds ≡ true → is_numeral ds ≡ true → number_value ds < 2 ^ 64 → decimal (number_value ds) ≡ ds
is_written [] all e small = absurd (false≢true e)
is_written (c ∷ cs) all e small =
    let outer = and_parts _ _ e in
    decimal-digits_value own (c ∷ cs) all (omega arith) (λ first. elim (or_cases _ _ outer.1) [
      | inl other ↦ absurd (eqb-false _ _ (not-true _ other) first)
      | inr alone ↦ ap suc (eqb-true _ _ alone)
    ]) small

pub numeral_takes : (limit : ℕ) (ds : List ℕ) (n : ℕ) → limit < 2 ^ 64 → list_all is_ascii_digit ds ≡ true → numeral_of limit ds ≡ Some n → (ds ≡ decimal n) × (n ≤ limit)
unfolding numeral_of
numeral_takes limit ds n small all e =
    let both = cond_some (is_numeral ds && nat_le (number_value ds) limit) (number_value ds) n e in
    let tests = and_parts _ _ both.0 in
    let within : number_value ds ≤ limit = leb-true _ _ tests.1 in
    let written = is_written ds all tests.0 (omega arith) in
    rw (← both.1) (sym written, within)

numeral : (ds : List ℕ) → 0 < length ds → length ds ≤ 10 → (get_or ds 0 0 ≡ 48 → length ds ≡ 1) → is_numeral ds ≡ true
numeral [] some few lone = absurd (omega arith)
numeral (c ∷ cs) some few lone =
    let no_zero_first : (not (c == 48) || length cs == 0) ≡ true = elim (cases_eq c 48) [
      | inl zero_first ↦ or_right (not (c == 48)) (length cs == 0) (eq-eqb _ _ (omega (arith, lone zero_first)))
      | inr other ↦ or_left (not (c == 48)) (length cs == 0) (not_from_false _ (ne_eqb c 48 other))
    ] in
    and_from _ _ (le-leb _ _ (omega arith)) no_zero_first

no_leading_zero : (n : ℕ) → n < 2 ^ 32 → get_or (decimal n) 0 0 ≡ 48 → length (decimal n) ≡ 1
no_leading_zero zero h z = ap length (decimal_digit 0 (omega arith))
no_leading_zero (suc m) h z =
    let short : suc m < 2 ^ 64 = omega arith in
    let positive : 0 < suc m = omega arith in
    absurd (omega (arith, first_decimal (suc m) positive short, z))

pub numeral_again : (limit n : ℕ) → limit < 2 ^ 32 → n ≤ limit → numeral_of limit (decimal n) ≡ Some n
unfolding numeral_of
numeral_again limit n small within =
    let short : n < 2 ^ 64 = omega arith in
    let few : n < 10 ^ 10 = omega arith in
    let ten : 0 < 10 = omega arith in
    let is = numeral (decimal n) (decimal_nonempty n short) (length-decimal-le 10 n ten few short) (no_leading_zero n (omega arith)) in
    let value : number_value (decimal n) ≡ n = digits_value-decimal own n short in
    rw (value, is, le-leb n limit within) refl

pub decimal_digits : (n : ℕ) → n < 2 ^ 64 → list_all is_ascii_digit (decimal n) ≡ true
decimal_digits n short = digits_decimal own n short

pub is_no_minus : (c : ℕ) → is_ascii_digit c ≡ true → (c == 45) ≡ false
is_no_minus c digit =
    let low : 48 ≤ c = leb-true _ _ (and_parts (nat_le 48 c) (nat_le c 57) digit).0 in
    ne_eqb c 45 (λ e. omega arith)

-- the text goes on with what fails the test, or ends
abbrev pub Stops : (ℕ → Bool) → List ℕ → Type 0
Stops test [] = Unit {0}
Stops test (c ∷ cs) = test c ≡ false

pub prefix-append : (test : ℕ → Bool) (word rest : List ℕ) → list_all test word ≡ true → Stops test rest → prefix_len test (word ++ rest) ≡ length word
prefix-append test [] [] all stops = refl
prefix-append test [] (c ∷ cs) all stops = rw stops refl
prefix-append test (c ∷ cs) rest all stops =
    let both = and_parts (test c) (list_all test cs) all in
    let tail = prefix-append test cs rest both.1 stops in
    rw both.0 (omega (arith, tail))

pub prefix_passes : (test : ℕ → Bool) (xs : List ℕ) → list_all test (take (prefix_len test xs) xs) ≡ true
prefix_passes test [] = refl
prefix_passes test (c ∷ cs) = by_test (test c) refl (prefix_passes test cs)
  where
    by_test : (b : Bool) → test c ≡ b → list_all test (take (prefix_len test cs) cs) ≡ true → list_all test (take (cond b (1 + prefix_len test cs) 0) (c ∷ cs)) ≡ true
    by_test true e more = let one : 1 + prefix_len test cs ≡ suc (prefix_len test cs) = omega arith in rw one (and_from _ _ e more)
    by_test false e more = refl

pub prefix_stops : (test : ℕ → Bool) (xs : List ℕ) → Stops test (drop (prefix_len test xs) xs)
prefix_stops test [] = tt
prefix_stops test (c ∷ cs) = by_test (test c) refl (prefix_stops test cs)
  where
    by_test : (b : Bool) → test c ≡ b → Stops test (drop (prefix_len test cs) cs) → Stops test (drop (cond b (1 + prefix_len test cs) 0) (c ∷ cs))
    by_test true e more = let one : 1 + prefix_len test cs ≡ suc (prefix_len test cs) = omega arith in rw one more
    by_test false e more = e
