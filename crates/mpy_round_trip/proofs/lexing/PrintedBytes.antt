-- The bytes of a printed line: printable up to the end, with spaces in front.
use Rattle.std.proofs.Common.{◌≡◌, ℕ, zero, suc, ◌+◌, ◌*◌, Bool, true, false, cond, List, [], ◌∷◌, ◌++◌, take, refl, ap, ◌∙◌, arith, eqb, one-add}
use Rattle.std.specs.List.{prefix_len, list_all, list_any, count_by}
use Rattle.std.proofs.lemmas.Bool.{and_parts}
use Rattle.std.proofs.lemmas.Bool.Decides.{nat_tests}
use Rattle.std.proofs.lemmas.List.Folds.{list_all-append}
use Rattle.std.proofs.lemmas.List.Sums.{sum_by-cons}
use Rattle.mpy_tree.specs.Printing.{indented}
use Rattle.mpy_lexer.specs.declared.forms.Form.TheVariants.{Program}
use Rattle.mpy_lexer.specs.Bytes.{is_blank, is_white}
use Rattle.mpy_lexer.specs.Pieces.{piece_at}
use Rattle.mpy_lexer.specs.PhysicalLines.{byte_order_mark_len, physical_lines, is_solid, begins_with_tab, column_of}
use Rattle.mpy_lexer.specs.TextLiterals.{is_printable}
use Rattle.mpy_round_trip.proofs.Scraps.{Scrap, gap, word, bytes_of, AreApart, words_in}
use Rattle.mpy_round_trip.proofs.lexing.PrintedParts.{line_of}

-- the scraps with the spaces in front
abbrev pub indent : ℕ → List Scrap → List Scrap
indent zero ss = ss
indent (suc d) ss = gap ∷ gap ∷ gap ∷ gap ∷ indent d ss

pub indented_bytes : (d : ℕ) (ss : List Scrap) → indented d (bytes_of ss) ≡ line_of (indent d ss)
indented_bytes zero ss = refl
indented_bytes (suc d) ss = ap (λ l. 32 ∷ 32 ∷ 32 ∷ 32 ∷ l) (indented_bytes d ss)

pub indent_apart : (d : ℕ) (ss : List Scrap) → AreApart ss → AreApart (indent d ss)
indent_apart zero ss apart = apart
indent_apart (suc d) ss apart = indent_apart d ss apart

pub indent_words : (d : ℕ) (ss : List Scrap) → words_in (indent d ss) ≡ words_in ss
indent_words zero ss = refl
indent_words (suc d) ss = indent_words d ss

pub bytes_printable : (ss : List Scrap) → AreApart ss → list_all is_printable (bytes_of ss) ≡ true
bytes_printable [] apart = refl
bytes_printable (gap ∷ ss) apart = bytes_printable ss apart
bytes_printable (word k bytes ∷ ss) apart = rw (list_all-append is_printable bytes (bytes_of ss), apart.1, bytes_printable ss apart.3) refl

-- the first physical line of a text

not_end : (c : ℕ) → is_printable c ≡ true → eqb c 10 ≡ false
not_end c h = grind (arith, nat_tests)

pub first_line : (body rest : List ℕ) → list_all is_printable body ≡ true → physical_lines (body ++ 10 ∷ rest) ≡ (body ++ 10 ∷ []) ∷ physical_lines rest
unfolding physical_lines
first_line [] rest all = refl
first_line (c ∷ body) rest all =
    let both = and_parts (is_printable c) (list_all is_printable body) all in
    rw (not_end c both.0, first_line body rest both.1) refl

low : (c : ℕ) → is_printable c ≡ true → eqb 239 c ≡ false
low c h = grind (arith, nat_tests)

-- no byte order mark is in front
pub no_mark : (body rest : List ℕ) → list_all is_printable body ≡ true → byte_order_mark_len (body ++ 10 ∷ rest) ≡ 0
unfolding byte_order_mark_len
no_mark [] rest all = refl
no_mark (c ∷ body) rest all = let both = and_parts (is_printable c) (list_all is_printable body) all in rw (low c both.0) refl

-- no tab is in front

not_tab : (c : ℕ) → is_printable c ≡ true → eqb c 9 ≡ false
not_tab c h = grind (arith, nat_tests)

none_in : (n : ℕ) → list_any (λ c. eqb c 9) (take n []) ≡ false
none_in zero = refl
none_in (suc n) = refl

no_tab_in : (n : ℕ) (body : List ℕ) → list_all is_printable body ≡ true → list_any (λ c. eqb c 9) (take n (body ++ 10 ∷ [])) ≡ false
no_tab_in zero body all = refl
no_tab_in (suc n) [] all = none_in n
no_tab_in (suc n) (c ∷ body) all =
    let both = and_parts (is_printable c) (list_all is_printable body) all in
    rw (not_tab c both.0, no_tab_in n body both.1) refl

pub no_tab : (body : List ℕ) → list_all is_printable body ≡ true → begins_with_tab (body ++ 10 ∷ []) ≡ false
unfolding begins_with_tab
no_tab body all = no_tab_in (prefix_len is_blank (body ++ 10 ∷ [])) body all

-- how many spaces are in front

taken : (n : ℕ) (rest : List ℕ) → take (1 + n) (32 ∷ rest) ≡ 32 ∷ take n rest
taken n rest = rw one-add refl

space_column : (rest : List ℕ) → column_of (32 ∷ rest) ≡ 1 + column_of rest
unfolding column_of
space_column rest = ap (count_by (λ c. eqb c 32)) (taken (prefix_len is_white rest) rest) ∙ (sum_by-cons (λ c. cond (eqb c 32) 1 0) 32 (take (prefix_len is_white rest) rest))

pub other_column : (c : ℕ) (rest : List ℕ) → is_white c ≡ false → column_of (c ∷ rest) ≡ 0
unfolding column_of
other_column c rest e = rw e refl

pub end_column : column_of (10 ∷ []) ≡ 0
unfolding column_of
end_column = refl

pub indent_column : (d : ℕ) (ss : List Scrap) → column_of (line_of ss) ≡ 0 → column_of (line_of (indent d ss)) ≡ 4 * d
indent_column zero ss none = none
indent_column (suc d) ss none =
    let more = indent_column d ss none in
    let rest = line_of (indent d ss) in
    omega (arith, more, space_column (32 ∷ 32 ∷ 32 ∷ rest), space_column (32 ∷ 32 ∷ rest), space_column (32 ∷ rest), space_column rest)

-- what begins a token is no white space
solid_case : (b : Bool) (c : ℕ) (rest : List ℕ) → is_white c ≡ b → is_solid (piece_at Program (c ∷ rest)).sort ≡ true → b ≡ false
unfolding piece_at
solid_case true c rest white solid = let wrong : false ≡ true = rw white at solid in absurd cc
solid_case false c rest white solid = refl

pub solid_first : (c : ℕ) (rest : List ℕ) → is_solid (piece_at Program (c ∷ rest)).sort ≡ true → is_white c ≡ false
solid_first c rest solid = solid_case (is_white c) c rest refl solid
