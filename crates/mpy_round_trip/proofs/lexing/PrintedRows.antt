-- What the physical lines of a printed text hold.
use Rattle.std.proofs.Common.{◌≡◌, ℕ, ◌+◌, ◌*◌, true, false, List, [], ◌∷◌, ◌++◌, length, map, None, refl, ap, ◌∙◌, append_assoc}
use Rattle.std.specs.Prelude.{All}
use Rattle.std.specs.List.{list_all}
use Rattle.std.proofs.lemmas.List.Elements.{All-head, All-tail}
use Rattle.mpy_lexer.specs.declared.forms.Form.TheVariants.{Program}
use Rattle.mpy_lexer.specs.declared.forms.Kind.{Kind}
use Rattle.mpy_lexer.specs.PhysicalLines.{byte_order_mark_len, physical_lines, column_of, row_of, rows_of, rows}
use Rattle.mpy_lexer.specs.TextLiterals.{is_printable}
use Rattle.mpy_round_trip.proofs.Scraps.{type_of, Scrap, word, bytes_of, next_byte, AreApart, Printed, IsFine, Begins, empty, token, line_text, text_of_lines, scrap_of, words_in}
use Rattle.mpy_round_trip.proofs.lexing.TokenPieces.{token_piece}
use Rattle.mpy_round_trip.proofs.lexing.PrintedParts.{line_of, line_begins, empty_form, line_words}
use Rattle.mpy_round_trip.proofs.lexing.PrintedBytes.{indent, indented_bytes, indent_apart, indent_words, bytes_printable, first_line, no_mark, no_tab, other_column, end_column, indent_column, solid_first}

abbrev pub Row : Type 0
Row = type_of (row_of Program 0 0 [])

-- what a printed line is as a physical line
pub record IsRowOf (n : ℕ) (p : Printed) (r : Row) : Type 0 where
  pub number : r.number ≡ n
  pub column : r.column ≡ 4 * p.depth
  pub cause : r.cause ≡ None
  pub right : r.is_wrong ≡ false
  pub tokens : map scrap_of r.tokens ≡ words_in p.scraps

abbrev pub AreRowsOf : ℕ → List Printed → List Row → Type 0
AreRowsOf n [] [] = Unit {0}
AreRowsOf n [] (r ∷ rs) = ⊥
AreRowsOf n (p ∷ ps) [] = ⊥
AreRowsOf n (p ∷ ps) (r ∷ rs) = IsRowOf n p r × AreRowsOf (n + 1) ps rs

token_column : (k : Kind) (bytes : List ℕ) (ss : List Scrap) → AreApart (word k bytes ∷ ss) → column_of (line_of (word k bytes ∷ ss)) ≡ 0
token_column k [] ss apart = absurd (empty_form k apart.0)
token_column k (x ∷ xs) ss apart =
    let rest = line_begins ss in
    let is = token_piece k (x ∷ xs) (next_byte ss) rest.0 apart.0 apart.2 in
    let text : line_of (word k (x ∷ xs) ∷ ss) ≡ x ∷ xs ++ next_byte ss ∷ rest.0 = append_assoc (x ∷ xs) (bytes_of ss) (10 ∷ []) ∙ ap (λ l. x ∷ xs ++ l) rest.1 in
    rw text (other_column x (xs ++ next_byte ss ∷ rest.0) (solid_first x (xs ++ next_byte ss ∷ rest.0) is.solid))

begin_column : (d : ℕ) (ss : List Scrap) → Begins d ss → AreApart ss → column_of (line_of ss) ≡ 0
begin_column d ss empty apart = end_column
begin_column d ss (token e k bytes rest) apart = token_column k bytes rest apart

row_line : (n from : ℕ) (p : Printed) → IsFine p → IsRowOf n p (row_of Program n from (line_text p))
unfolding row_of
row_line n from p fine =
    let ss = indent p.depth p.scraps in
    let apart = indent_apart p.depth p.scraps fine.apart in
    let words = line_words ss from apart in
    rw (indented_bytes p.depth p.scraps)
    record {
      number = refl;
      column = indent_column p.depth p.scraps (begin_column p.depth p.scraps fine.begins fine.apart);
      cause = rw (no_tab (bytes_of ss) (bytes_printable ss apart), words.plain) refl;
      right = words.right;
      tokens = words.tokens ∙ indent_words p.depth p.scraps;
    }

-- the first line, and the text behind it
text_front : (p : Printed) (ps : List Printed) → text_of_lines (p ∷ ps) ≡ bytes_of (indent p.depth p.scraps) ++ 10 ∷ text_of_lines ps
text_front p ps = rw (indented_bytes p.depth p.scraps) (append_assoc (bytes_of (indent p.depth p.scraps)) (10 ∷ []) (text_of_lines ps))

printable_line : (p : Printed) → IsFine p → list_all is_printable (bytes_of (indent p.depth p.scraps)) ≡ true
printable_line p fine = bytes_printable (indent p.depth p.scraps) (indent_apart p.depth p.scraps fine.apart)

no_text : physical_lines [] ≡ []
unfolding physical_lines
no_text = refl

printed_lines : (ps : List Printed) → All IsFine ps → physical_lines (text_of_lines ps) ≡ map line_text ps
printed_lines [] fine = no_text
printed_lines (p ∷ ps) fine =
    rw (text_front p ps, first_line (bytes_of (indent p.depth p.scraps)) (text_of_lines ps) (printable_line p (All-head IsFine p ps fine)), printed_lines ps (All-tail IsFine p ps fine), indented_bytes p.depth p.scraps) refl

no_mark_in : (ps : List Printed) → All IsFine ps → byte_order_mark_len (text_of_lines ps) ≡ 0
unfolding byte_order_mark_len
no_mark_in [] fine = refl
no_mark_in (p ∷ ps) fine = rw (text_front p ps) (no_mark (bytes_of (indent p.depth p.scraps)) (text_of_lines ps) (printable_line p (All-head IsFine p ps fine)))

rows_from : (n from : ℕ) (ps : List Printed) → All IsFine ps → AreRowsOf n ps (rows_of Program n from (map line_text ps))
unfolding rows_of
rows_from n from [] fine = tt
rows_from n from (p ∷ ps) fine = (row_line n from p (All-head IsFine p ps fine), rows_from (n + 1) (from + length (line_text p)) ps (All-tail IsFine p ps fine))

pub printed_rows : (ps : List Printed) → All IsFine ps → AreRowsOf 1 ps (rows Program (text_of_lines ps))
unfolding rows
printed_rows ps fine = rw (no_mark_in ps fine, printed_lines ps fine) (rows_from 1 0 ps fine)
