-- The digits at the front of a text, and the number that they write.
use Rattle.std.proofs.Common.{◌≡◌, ℕ, zero, suc, ◌+◌, ◌-◌, ◌*◌, ◌≤◌, ◌<◌, ◌^◌, Bool, true, false, List, [], ◌∷◌, ◌++◌, length, take, drop, get_or, refl, sym, ap, ◌∙◌, subst, arith, rules, cond, nat_le}
use Rattle.std.specs.Char.{digit_value, is_ascii_digit}
use Rattle.std.specs.Fmt.{decimal}
use Rattle.std.specs.List.{list_all, prefix_len, take_while}
use Rattle.std.specs.Str.Parse.{digits_value, digits_value_after}
use Rattle.std.proofs.lemmas.Bool.{and_from, and_parts, eqb-true, leb-true}
use Rattle.std.proofs.lemmas.Fmt.{decimal-digits_value, decimal_digit, decimal_nonempty, digits_decimal, digits_value-decimal, first_decimal}
use Rattle.std.proofs.lemmas.List.{append-nil, at_drop_more, take-append-drop}
use Rattle.std.proofs.lemmas.List.Prefix.{front_rest}
use Rattle.std.proofs.lemmas.List.Sums.{take_while-cons}
use Rattle.std.proofs.lemmas.Str.{digit_value_digit}
use Rattle.std.proofs.lemmas.Str.Parse.{IsNumeralModel, numerals_by_value}
use Rattle.step_lines.specs.Limits.{greatest_number}
use Rattle.step_lines.specs.Words.{BeginsWithNumber, SpellsNumber, is_at}
use Rattle.step_lines.proofs.Growing.{front_is}

-- reading on

digit_is : (c : ℕ) → is_ascii_digit c ≡ true → digit_value c ≡ c - 48
digit_is c e =
    let both = and_parts (nat_le 48 c) (nat_le c 57) e in
    omega (arith, digit_value_digit c (leb-true _ _ both.0, leb-true _ _ both.1))

pub value_goes_on : (text : List ℕ) (i v : ℕ) → i < length text → is_ascii_digit (get_or text i 0) ≡ true → digits_value_after 10 v (take_while is_ascii_digit (drop i text)) ≡ digits_value_after 10 (v * 10 + (get_or text i 0 - 48)) (take_while is_ascii_digit (drop (i + 1) text))
value_goes_on text i v lt digit =
    let c = get_or text i 0 in
    let more = take_while is_ascii_digit (drop (i + 1) text) in
    at_drop_more (λ t. digits_value_after 10 v (take_while is_ascii_digit t)) text i 0 lt
    ∙ ap (digits_value_after 10 v) (take_while-cons is_ascii_digit c (drop (i + 1) text) ∙ ap (λ b. cond b (c ∷ more) []) digit)
    ∙ ap (λ d. digits_value_after 10 (v * 10 + d) more) (digit_is c digit)

pub value_grows : (v : ℕ) (ds : List ℕ) → v ≤ digits_value_after 10 v ds
value_grows v [] = omega arith
value_grows v (c ∷ cs) = omega (arith, value_grows (v * 10 + digit_value c) cs)

-- digits, and what stands behind them

prefix_passes : (test : ℕ → Bool) (xs : List ℕ) → list_all test (take_while test xs) ≡ true
prefix_passes test [] = refl
prefix_passes test (c ∷ cs) = by_test (test c) refl (prefix_passes test cs)
  where
    by_test : (b : Bool) → test c ≡ b → list_all test (take (prefix_len test cs) cs) ≡ true → list_all test (take (cond b (1 + prefix_len test cs) 0) (c ∷ cs)) ≡ true
    by_test true e more = let one : 1 + prefix_len test cs ≡ suc (prefix_len test cs) = omega arith in rw one (and_from _ _ e more)
    by_test false e more = refl

digits_before : (ds behind : List ℕ) → list_all is_ascii_digit ds ≡ true → is_at 32 behind ≡ true → prefix_len is_ascii_digit (ds ++ behind) ≡ length ds
digits_before [] [] all at = refl
digits_before [] (c ∷ cs) all at = let space : c ≡ 32 = eqb-true c 32 at in rw space refl
digits_before (c ∷ cs) behind all at =
    let parts = and_parts (is_ascii_digit c) (list_all is_ascii_digit cs) all in
    let tail = digits_before cs behind parts.1 at in
    ap (λ b. cond b (1 + prefix_len is_ascii_digit (cs ++ behind)) 0) parts.0 ∙ omega (arith, tail)

own : IsNumeralModel (λ ds. list_all is_ascii_digit ds ≡ true) (digits_value 10)
own = numerals_by_value _ (search rules)

-- what such digits are where the text begins with a number
module _ (text : List ℕ) (n : ℕ) (behind : List ℕ) (s : BeginsWithNumber text n behind) where
  small : n < 2 ^ 64
  small = let low : n ≤ greatest_number = s.kept in omega arith

  pub their_count : prefix_len is_ascii_digit text ≡ length (decimal n)
  their_count = ap (prefix_len is_ascii_digit) s.written ∙ digits_before (decimal n) behind (digits_decimal own n small) s.apart

  pub they_are : take_while is_ascii_digit text ≡ decimal n
  they_are = ap (λ k. take k text) their_count ∙ front_is (decimal n) behind text s.written

  pub their_value : digits_value 10 (take_while is_ascii_digit text) ≡ n
  their_value = ap (digits_value 10) they_are ∙ digits_value-decimal own n small

  pub they_end : drop (prefix_len is_ascii_digit text) text ≡ behind
  they_end = ap (λ k. drop k text) their_count ∙ front_rest text (decimal n) behind s.written

-- one digit or more, and no 0 that leads others
abbrev pub AreCanonical : List ℕ → Type 0
AreCanonical ds = (0 < length ds) × (get_or ds 0 0 ≡ 48 → length ds ≡ 1)

canonical_by : (n : ℕ) (e : ℕ) → n ≡ e → n < 2 ^ 64 → AreCanonical (decimal n)
canonical_by n zero e h = rw (e, decimal_digit 0 (omega arith)) (omega arith, λ z. refl)
canonical_by n (suc m) e h =
    let positive : 0 < n = omega arith in
    (decimal_nonempty n h, λ z. absurd (omega (arith, first_decimal n positive h, z)))

-- a text in which digits were counted
module _ (text : List ℕ) (count : ℕ) (counted : count ≡ prefix_len is_ascii_digit text) (digits rest : List ℕ) (front : digits ≡ take count text) (back : rest ≡ drop count text) where
  digits_are : digits ≡ take_while is_ascii_digit text
  digits_are = front ∙ ap (λ k. take k text) counted

  whole : text ≡ digits ++ rest
  whole = rw (front, back) (sym (take-append-drop count text))

  pub number_read : (value : ℕ) → value ≡ digits_value 10 (take_while is_ascii_digit text) → value ≤ greatest_number → AreCanonical digits → is_at 32 rest ≡ true → BeginsWithNumber text value rest
  number_read value e low canonical at =
      let same : value ≡ digits_value 10 digits = e ∙ ap (digits_value 10) (sym digits_are) in
      let all : list_all is_ascii_digit digits ≡ true = rw digits_are (prefix_passes is_ascii_digit text) in
      let written : decimal (digits_value 10 digits) ≡ digits = decimal-digits_value own digits all canonical.0 canonical.1 (omega arith) in
      record { written = whole ∙ ap (λ t. t ++ rest) (sym (ap decimal same ∙ written)); apart = at; kept = low }

  module _ (n : ℕ) (behind : List ℕ) (s : BeginsWithNumber text n behind) where
    pub is_canonical : AreCanonical digits
    is_canonical = let is : digits ≡ decimal n = digits_are ∙ they_are text n behind s in subst AreCanonical (sym is) (canonical_by n n refl (small text n behind s))

    pub is_followed : is_at 32 rest ≡ true
    is_followed = let is : rest ≡ behind = back ∙ ap (λ k. drop k text) counted ∙ they_end text n behind s in subst (λ t. is_at 32 t ≡ true) (sym is) s.apart

-- a whole text

pub alone : (text : List ℕ) (n : ℕ) → SpellsNumber text n → BeginsWithNumber text n []
alone text n s = record { written = s.written ∙ sym (append-nil (decimal n)); apart = refl; kept = s.kept }

pub none_behind : (text : List ℕ) (m n : ℕ) (behind : List ℕ) → BeginsWithNumber text m behind → SpellsNumber text n → behind ≡ []
none_behind text m n behind front s = sym (they_end text m behind front) ∙ they_end text n [] (alone text n s)

pub read_alone : (text : List ℕ) (n : ℕ) (behind : List ℕ) → BeginsWithNumber text n behind → behind ≡ [] → SpellsNumber text n
read_alone text n behind front e = record { written = front.written ∙ ap (λ t. decimal n ++ t) e ∙ append-nil (decimal n); kept = front.kept }
