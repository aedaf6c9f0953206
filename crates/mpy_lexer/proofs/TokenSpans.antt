-- The tokens of the lines are the bytes of their spans.
use Rattle.std.proofs.Common.{◌≡◌, ℕ, zero, suc, ◌+◌, ◌-◌, ◌<◌, min, Bool, true, false, cond, List, [], ◌∷◌, ◌++◌, length, take, drop, Ok, Option, Some, None, refl, sym, ap, ◌∙◌, arith, length-take, length-drop, length-append, eqb}
use Rattle.std.specs.Prelude.{All}
use Rattle.std.specs.List.{concat}
use Rattle.std.proofs.lemmas.List.{take-append-le, take_min, drop-drop, drop_at}
use Rattle.std.proofs.lemmas.List.Elements.{All-nil, All-cons, All-head, All-tail, All-append}
use Rattle.mpy_lexer.specs.declared.forms.Form.{Form}
use Rattle.mpy_lexer.specs.declared.forms.Kind.{Kind}
use Rattle.mpy_lexer.specs.declared.pieces.Sort.{Sort}
use Rattle.mpy_lexer.specs.declared.pieces.Sort.TheVariants as sort
use Rattle.mpy_lexer.specs.declared.token.Token.{Token}
use Rattle.mpy_lexer.specs.declared.brackets.Bracket.{Bracket}
use Rattle.mpy_lexer.specs.declared.line.Line.{Line}
use Rattle.mpy_lexer.specs.declared.line.LexError.{LexError}
use Rattle.mpy_lexer.specs.declared.rows.Row.{Row}
use Rattle.mpy_lexer.specs.Pieces.{piece_at, parts}
use Rattle.mpy_lexer.specs.PhysicalLines.{byte_order_mark_len, with_byte, physical_lines, token_in, tokens_of, row_of, rows_of, rows}
use Rattle.mpy_lexer.specs.Brackets.{open_after}
use Rattle.mpy_lexer.specs.Lexing.{begins, continued, logical_lines, first_fault, lines_unless, lex}
use Rattle.mpy_lexer.specs.TokenForms.{has_form}
use Rattle.mpy_lexer.specs.Spans.{IsIn, IsLineOf}
use Rattle.mpy_lexer.proofs.PieceForms.{piece_form}
use Rattle.mpy_lexer.proofs.PieceLengths.{at_front}

-- the front of what stands at a place, as a token
in_source : (form : Form) (source : List ℕ) (kind : Kind) (from n : ℕ) (l rest : List ℕ) → drop from source ≡ l ++ rest → 0 < n → 0 < length l → has_form form kind (take n l) ≡ true → IsIn form source (record { kind = kind; from = from; to = from + length (take n l); text = take n l })
in_source form source kind from n l rest e h some good =
    let size : length (take n l) ≡ min n (length l) = length-take n l in
    let left : length source - from ≡ length l + length rest = sym (length-drop from source) ∙ ap length e ∙ length-append l rest in
    let less : from + length (take n l) - from ≡ min n (length l) = omega (arith, size) in
    let front : take (min n (length l)) (l ++ rest) ≡ take n l = take-append-le (min n (length l)) l rest (omega arith) ∙ take_min n l in
    record {
      some = omega (arith, size);
      within = omega (arith, size, left);
      text = sym (rw (less, e, front) refl);
      spelled = good;
    }

token_placed : (form : Form) (source : List ℕ) (s : Sort) (from n : ℕ) (l rest : List ℕ) → drop from source ≡ l ++ rest → 0 < n → 0 < length l → ((k : Kind) → s ≡ sort.Token k → has_form form k (take n l) ≡ true) → All (IsIn form source) (token_in s from (take n l))
token_placed form source sort.Space from n l rest e h some good = All-nil (IsIn form source)
token_placed form source sort.Comment from n l rest e h some good = All-nil (IsIn form source)
token_placed form source sort.Wrong from n l rest e h some good = All-nil (IsIn form source)
token_placed form source (sort.Token k) from n l rest e h some good =
    All-cons (IsIn form source) (record { kind = k; from = from; to = from + length (take n l); text = take n l }) [] (in_source form source k from n l rest e h some (good k refl)) (All-nil (IsIn form source))

one_on : (source : List ℕ) (from c : ℕ) (xs : List ℕ) → drop from source ≡ c ∷ xs → drop (from + 1) source ≡ xs
one_on source from c xs e = sym (drop-drop 1 from source) ∙ rw e refl

parts_placed : (form : Form) (source : List ℕ) (from taken : ℕ) (l rest : List ℕ) → drop from source ≡ l ++ rest → All (IsIn form source) (tokens_of (parts form from taken l))
unfolding parts
parts_placed form source from zero [] rest e = All-nil (IsIn form source)
parts_placed form source from (suc n) [] rest e = All-nil (IsIn form source)
parts_placed form source from (suc n) (c ∷ l) rest e = parts_placed form source (from + 1) n l rest (one_on source from c (l ++ rest) e)
parts_placed form source from zero (c ∷ l) rest e =
    let p = piece_at form (c ∷ l) in
    All-append (IsIn form source) (token_in p.sort from (take p.len (c ∷ l))) (tokens_of (parts form (from + 1) (p.len - 1) l))
    (token_placed form source p.sort from p.len (c ∷ l) rest e (at_front form (c ∷ l) (omega arith)) (omega arith) (piece_form form (c ∷ l)))
    (parts_placed form source (from + 1) (p.len - 1) l rest (one_on source from c (l ++ rest) e))

abbrev ArePlaced : Form → List ℕ → List Row → Type 0
ArePlaced form source rs = All (λ r. All (IsIn form source) r.tokens) rs

row_placed : (form : Form) (source : List ℕ) (number from : ℕ) (l rest : List ℕ) → drop from source ≡ l ++ rest → All (IsIn form source) (row_of form number from l).tokens
unfolding row_of
row_placed form source number from l rest e = parts_placed form source from 0 l rest e

rows_placed : (form : Form) (source : List ℕ) (number from : ℕ) (ls : List (List ℕ)) → drop from source ≡ concat ls → ArePlaced form source (rows_of form number from ls)
unfolding rows_of
rows_placed form source number from [] e = All-nil (λ r. All (IsIn form source) r.tokens)
rows_placed form source number from (l ∷ ls) e =
    let rest : drop (from + length l) source ≡ concat ls = sym (drop-drop (length l) from source) ∙ ap (drop (length l)) e ∙ drop_at l (concat ls) (length l) refl in
    All-cons (λ r. All (IsIn form source) r.tokens) (row_of form number from l) (rows_of form (number + 1) (from + length l) ls) (row_placed form source number from l (concat ls) e) (rows_placed form source (number + 1) (from + length l) ls rest)

concat-with_byte : (c : ℕ) (ls : List (List ℕ)) → concat (with_byte c ls) ≡ c ∷ concat ls
concat-with_byte c [] = refl
concat-with_byte c (l ∷ ls) = refl

concat_cut : (b : Bool) (c : ℕ) (rest : List ℕ) → concat (physical_lines rest) ≡ rest → concat (cond b ((c ∷ []) ∷ physical_lines rest) (with_byte c (physical_lines rest))) ≡ c ∷ rest
concat_cut true c rest e = ap (λ xs. c ∷ xs) e
concat_cut false c rest e = concat-with_byte c (physical_lines rest) ∙ ap (λ xs. c ∷ xs) e

-- the physical lines are the text
pub concat-lines : (text : List ℕ) → concat (physical_lines text) ≡ text
unfolding physical_lines
concat-lines [] = refl
concat-lines (c ∷ rest) = concat_cut (eqb c 10) c rest (concat-lines rest)

all_placed : (form : Form) (source : List ℕ) → ArePlaced form source (rows form source)
unfolding rows
all_placed form source = let skipped = byte_order_mark_len source in rows_placed form source 1 skipped (physical_lines (drop skipped source)) (sym (concat-lines (drop skipped source)))

continued_placed : (form : Form) (source : List ℕ) (opened : List Bracket) (rs : List Row) → ArePlaced form source rs → All (IsIn form source) (continued opened rs)
unfolding continued
continued_placed form source [] rs h = All-nil (IsIn form source)
continued_placed form source (b ∷ outer) [] h = All-nil (IsIn form source)
continued_placed form source (b ∷ outer) (r ∷ rs) h =
    let next = open_after r.number (b ∷ outer) r.tokens in
    All-append (IsIn form source) r.tokens (continued next rs) (All-head (λ r. All (IsIn form source) r.tokens) r rs h) (continued_placed form source next rs (All-tail (λ r. All (IsIn form source) r.tokens) r rs h))

begun : (opened : List Bracket) (ts more : List Token) → begins opened ts ≡ true → 0 < length (ts ++ more)
begun [] [] more e = absurd cc
begun (b ∷ outer) [] more e = absurd cc
begun opened (t ∷ ts) more e = omega arith

line_case : (b : Bool) (form : Form) (source : List ℕ) (l : Line) (ls : List Line) → (b ≡ true → IsLineOf form source l) → All (IsLineOf form source) ls → All (IsLineOf form source) (cond b (l ∷ ls) ls)
line_case true form source l ls first rest = All-cons (IsLineOf form source) l ls (first refl) rest
line_case false form source l ls first rest = rest

lines_placed : (form : Form) (source : List ℕ) (opened : List Bracket) (rs : List Row) → ArePlaced form source rs → All (IsLineOf form source) (logical_lines opened rs)
unfolding logical_lines
lines_placed form source opened [] h = All-nil (IsLineOf form source)
lines_placed form source opened (r ∷ rs) h =
    let next = open_after r.number opened r.tokens in
    let others = All-tail (λ r. All (IsIn form source) r.tokens) r rs h in
    let here = All-head (λ r. All (IsIn form source) r.tokens) r rs h in
    line_case (begins opened r.tokens) form source (record { line = r.number; column = r.column; tokens = r.tokens ++ continued next rs }) (logical_lines next rs)
    (λ e. record { some = begun opened r.tokens (continued next rs) e; tokens = All-append (IsIn form source) r.tokens (continued next rs) here (continued_placed form source next rs others) })
    (lines_placed form source next rs others)

-- lines are given only where there is no fault
pub unless : (fault : Option LexError) (found ls : List Line) → lines_unless fault found ≡ Ok ls → (fault ≡ None) × (found ≡ ls)
unless None found ls e = (refl, cc)
unless (Some x) found ls e = absurd cc

pub of_source : (form : Form) (source : List ℕ) → All (IsLineOf form source) (logical_lines [] (rows form source))
of_source form source = lines_placed form source [] (rows form source) (all_placed form source)

pub spans : (form : Form) (source : List ℕ) (ls : List Line) → lex form source ≡ Ok ls → All (IsLineOf form source) ls
unfolding lex
spans form source ls e =
    let same : logical_lines [] (rows form source) ≡ ls = (unless (first_fault (rows form source)) (logical_lines [] (rows form source)) ls e).1 in
    rw (← same) (of_source form source)
