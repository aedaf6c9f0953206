-- A printed text has no faults, and its lines are the logical lines.
use Rattle.std.proofs.Common.{◌≡◌, ℕ, ◌+◌, ◌*◌, List, [], ◌∷◌, map, None, refl, append-nil}
use Rattle.std.specs.Prelude.{All}
use Rattle.std.proofs.lemmas.List.Elements.{All-head, All-tail}
use Rattle.mpy_lexer.specs.declared.forms.Form.TheVariants.{Program}
use Rattle.mpy_lexer.specs.declared.token.Token.{Token}
use Rattle.mpy_lexer.specs.Brackets.{open_after}
use Rattle.mpy_tree.specs.Leasts.{least}
use Rattle.mpy_lexer.specs.PhysicalLines.{rows}
use Rattle.mpy_lexer.specs.Lexing.{byte_fault, faulty_lines, token_fault, continued, logical_lines}
use Rattle.mpy_round_trip.proofs.Scraps.{Scrap, word, Printed, Begins, empty, token, IsFine, text_of_lines, scrap_of, words_in, AreLinesOf, no_lines, an_empty_line, a_line}
use Rattle.mpy_round_trip.proofs.lexing.PrintedRows.{Row, AreRowsOf, printed_rows}
use Rattle.mpy_round_trip.proofs.lexing.ScrapBrackets.{same_open, none_unmatched}

no_cause : (n : ℕ) (ps : List Printed) (rs : List Row) → AreRowsOf n ps rs → byte_fault rs ≡ None
unfolding byte_fault
no_cause n [] [] are = refl
no_cause n [] (r ∷ rs) are = absurd are
no_cause n (p ∷ ps) [] are = absurd are
no_cause n (p ∷ ps) (r ∷ rs) are = rw (are.0.cause, no_cause (n + 1) ps rs are.1) refl

pub no_byte_fault : (ps : List Printed) → All IsFine ps → byte_fault (rows Program (text_of_lines ps)) ≡ None
no_byte_fault ps fine = no_cause 1 ps (rows Program (text_of_lines ps)) (printed_rows ps fine)

none_faulty : (n : ℕ) (ps : List Printed) (rs : List Row) → All IsFine ps → AreRowsOf n ps rs → faulty_lines [] rs ≡ []
unfolding faulty_lines
none_faulty n [] [] fine are = refl
none_faulty n [] (r ∷ rs) fine are = absurd are
none_faulty n (p ∷ ps) [] fine are = absurd are
none_faulty n (p ∷ ps) (r ∷ rs) fine are =
    let balanced = (All-head IsFine p ps fine).balanced in
    rw (are.0.right, none_unmatched r.number [] p.scraps r.tokens balanced are.0.tokens, same_open r.number [] p.scraps r.tokens balanced are.0.tokens) (none_faulty (n + 1) ps rs (All-tail IsFine p ps fine) are.1)

pub no_token_fault : (ps : List Printed) → All IsFine ps → token_fault (rows Program (text_of_lines ps)) ≡ None
unfolding least
no_token_fault ps fine = rw (none_faulty 1 ps (rows Program (text_of_lines ps)) fine (printed_rows ps fine)) refl

-- one row more, by what it begins with
empty_row : (r : Row) (rs : List Row) (ts : List Token) → r.tokens ≡ ts → map scrap_of ts ≡ [] → open_after r.number [] r.tokens ≡ [] → logical_lines [] (r ∷ rs) ≡ logical_lines [] rs
unfolding logical_lines
empty_row r rs [] e none same = rw (same, e) refl
empty_row r rs (t ∷ ts) e none same = absurd cc

line_row : (r : Row) (rs : List Row) (ts : List Token) (s : Scrap) (ss : List Scrap) → r.tokens ≡ ts → map scrap_of ts ≡ s ∷ ss → open_after r.number [] r.tokens ≡ []
    → logical_lines [] (r ∷ rs) ≡ record { line = r.number; column = r.column; tokens = r.tokens } ∷ logical_lines [] rs
unfolding logical_lines continued
line_row r rs [] s ss e some same = absurd cc
line_row r rs (t ∷ ts) s ss e some same = rw (same, e, append-nil ts) refl

one_line : (n d : ℕ) (ss : List Scrap) (ps : List Printed) (r : Row) (rs : List Row) → Begins d ss → r.number ≡ n → r.column ≡ 4 * d → map scrap_of r.tokens ≡ words_in ss → open_after r.number [] r.tokens ≡ []
    → AreLinesOf (n + 1) ps (logical_lines [] rs) → AreLinesOf n (record { depth = d; scraps = ss } ∷ ps) (logical_lines [] (r ∷ rs))
one_line n d ss ps r rs empty number column tokens same others = rw (empty_row r rs r.tokens refl tokens same) (an_empty_line others)
one_line n d ss ps r rs (token e k bytes rest) number column tokens same others =
    rw (line_row r rs r.tokens (word k bytes) (words_in rest) refl tokens same) (a_line (record { line = number; column = column; tokens = tokens }) others)

lines_of_rows : (n : ℕ) (ps : List Printed) (rs : List Row) → All IsFine ps → AreRowsOf n ps rs → AreLinesOf n ps (logical_lines [] rs)
unfolding logical_lines
lines_of_rows n [] [] fine are = no_lines
lines_of_rows n [] (r ∷ rs) fine are = absurd are
lines_of_rows n (p ∷ ps) [] fine are = absurd are
lines_of_rows n (p ∷ ps) (r ∷ rs) fine are =
    let here = All-head IsFine p ps fine in
    one_line n p.depth p.scraps ps r rs here.begins are.0.number are.0.column are.0.tokens (same_open r.number [] p.scraps r.tokens here.balanced are.0.tokens) (lines_of_rows (n + 1) ps rs (All-tail IsFine p ps fine) are.1)

pub lines_of_printed : (ps : List Printed) → All IsFine ps → AreLinesOf 1 ps (logical_lines [] (rows Program (text_of_lines ps)))
lines_of_printed ps fine = lines_of_rows 1 ps (rows Program (text_of_lines ps)) fine (printed_rows ps fine)
