-- The decimal digits of a number are a number token, and write that number.
use Rattle.std.proofs.Common.{◌≡◌, ℕ, zero, suc, ◌+◌, ◌-◌, ◌*◌, ◌<◌, ◌≤◌, true, false, not, ◌==◌, List, [], ◌∷◌, length, get_or, fold, decimal, ◌⊎◌, inl, inr, refl, ap, ◌∙◌, arith, ne_eqb, le-leb, rules}
use Rattle.std.specs.Char.{is_ascii_digit}
use Rattle.std.specs.List.{list_all}
use Rattle.std.proofs.lemmas.Bool.{and_parts, and_from, or_right}
use Rattle.std.proofs.lemmas.Bool.Decides.{nat_tests}
use Rattle.std.proofs.lemmas.Str.Parse.{IsNumeralModel, numerals_by_fold}
use Rattle.std.proofs.lemmas.Fmt.{digits_decimal, digits_value-decimal, decimal_nonempty, decimal_digit, first_decimal}
use Rattle.mpy_lexer.specs.declared.forms.Form.TheVariants.{Program}
use Rattle.mpy_lexer.specs.declared.forms.Kind.TheVariants as kind
use Rattle.mpy_lexer.specs.Pieces.{number_value}
use Rattle.mpy_lexer.specs.TokenForms.{has_form}
use Rattle.mpy_expressions.specs.declared.terminals.Terminal.TheVariants as terminal
use Rattle.mpy_expressions.specs.Terminals.{number_terminal}
use Rattle.mpy_lexer.specs.TextLiterals.{is_printable}

abbrev value_from : ℕ → List ℕ → ℕ
value_from n ds = fold (λ n c. n * 10 + (c - 48)) n ds

own : IsNumeralModel (λ ds. list_all is_ascii_digit ds ≡ true) (value_from 0)
own = numerals_by_fold _ (search rules) value_from (search rules)

-- digits that write a number, with no zero before others
pub record IsNumeralOf (n : ℕ) (ds : List ℕ) : Type 0 where
  pub first : ℕ
  pub rest : List ℕ
  pub cut : ds ≡ first ∷ rest
  pub digits : list_all is_ascii_digit (first ∷ rest) ≡ true
  pub leads : ((first == 48) ≡ false) ⊎ (rest ≡ [])
  pub value : number_value (first ∷ rest) ≡ n

by_first : (n : ℕ) (ds : List ℕ) → 0 < length ds → list_all is_ascii_digit ds ≡ true → 48 < get_or ds 0 0 → number_value ds ≡ n → IsNumeralOf n ds
by_first n [] some digits leads value = absurd (omega arith)
by_first n (c ∷ rest) some digits leads value = record { first = c; rest = rest; cut = refl; digits = digits; leads = inl (ne_eqb c 48 (λ e. omega arith)); value = value }

pub numeral : (n : ℕ) → n ≤ 2147483647 → IsNumeralOf n (decimal n)
numeral zero h = record { first = 48; rest = []; cut = decimal_digit 0 (omega arith); digits = refl; leads = inr refl; value = refl }
numeral (suc n) h =
    let small : suc n < 18446744073709551616 = omega arith in
    by_first (suc n) (decimal (suc n)) (decimal_nonempty (suc n) small) (digits_decimal own (suc n) small) (first_decimal (suc n) (omega arith) small) (digits_value-decimal own (suc n) small)

printable_digit : (c : ℕ) → is_ascii_digit c ≡ true → is_printable c ≡ true
printable_digit c h = grind (arith, nat_tests)

pub printable_digits : (ds : List ℕ) → list_all is_ascii_digit ds ≡ true → list_all is_printable ds ≡ true
printable_digits [] h = refl
printable_digits (c ∷ ds) h = let parts = and_parts (is_ascii_digit c) (list_all is_ascii_digit ds) h in and_from (is_printable c) (list_all is_printable ds) (printable_digit c parts.0) (printable_digits ds parts.1)

-- the first digit is no other byte
pub first_digit : (c : ℕ) (ds : List ℕ) → list_all is_ascii_digit (c ∷ ds) ≡ true → (61 == c) ≡ false
first_digit c ds h = let parts = and_parts (is_ascii_digit c) (list_all is_ascii_digit ds) h in equals_none c parts.0
  where
    equals_none : (c : ℕ) → is_ascii_digit c ≡ true → (61 == c) ≡ false
    equals_none c h = grind (arith, nat_tests)

form_by : (c : ℕ) (rest : List ℕ) (n : ℕ) → n ≤ 2147483647 → list_all is_ascii_digit (c ∷ rest) ≡ true → ((c == 48) ≡ false) ⊎ (rest ≡ []) → number_value (c ∷ rest) ≡ n → (has_form Program kind.Number (c ∷ rest) ≡ true) × (number_terminal (c ∷ rest) ≡ terminal.Number n)
form_by c [] n small digits leads value = rw (digits, value, le-leb n 2147483647 small) (refl, rw (or_right (not (c == 48)) true refl) refl)
form_by c (d ∷ rest) n small digits (inl other) value = rw (digits, other, value, le-leb n 2147483647 small) (refl, refl)
form_by c (d ∷ rest) n small digits (inr none) value = absurd cc

pub numeral_form : (n : ℕ) → n ≤ 2147483647 → has_form Program kind.Number (decimal n) ≡ true
numeral_form n h = let d = numeral n h in ap (has_form Program kind.Number) d.cut ∙ (form_by d.first d.rest n h d.digits d.leads d.value).0

pub numeral_terminal : (n : ℕ) → n ≤ 2147483647 → number_terminal (decimal n) ≡ terminal.Number n
numeral_terminal n h = let d = numeral n h in ap number_terminal d.cut ∙ (form_by d.first d.rest n h d.digits d.leads d.value).1
