-- What is answered for a text, by the first of its causes.
use Rattle.std.proofs.Common.{◌≡◌, ℕ, List, [], Some, None, Ok, Err, refl, sym, ap}
use Rattle.mpy_lexer.specs.declared.forms.Form.{Form}
use Rattle.mpy_lexer.specs.declared.line.Line.{Line}
use Rattle.mpy_lexer.specs.declared.line.LexCause.TheVariants as cause
use Rattle.mpy_lexer.specs.declared.line.LexError.{LexError}
use Rattle.mpy_lexer.specs.declared.line.LexError.TheVariants.{Fault, NoMemory}
use Rattle.mpy_lexer.specs.declared.rows.Row.{Row}
use Rattle.mpy_lexer.specs.PhysicalLines.{rows}
use Rattle.mpy_tree.specs.Leasts.{least}
use Rattle.mpy_lexer.specs.Lexing.{byte_fault, faulty_lines, logical_lines, length_fault, lex, IsAnswered}

answered : (form : Form) (bytes : List ℕ) (e : LexError) → lex form bytes ≡ Err e → IsAnswered form bytes e
answered form bytes (Fault c line) same = same
answered form bytes NoMemory same = tt

pub by_bytes : (form : Form) (bytes : List ℕ) (rs : List Row) (e : LexError) → rs ≡ rows form bytes → Some e ≡ byte_fault rs → IsAnswered form bytes e
unfolding lex
by_bytes form bytes rs e is found =
    let first : byte_fault (rows form bytes) ≡ Some e = rw is at (sym found) in
    answered form bytes e (rw first refl)

pub by_tokens : (form : Form) (bytes : List ℕ) (rs : List Row) (line : ℕ) → rs ≡ rows form bytes → None ≡ byte_fault rs → Some line ≡ least (faulty_lines [] rs) → IsAnswered form bytes (Fault cause.Token line)
unfolding lex
by_tokens form bytes rs line is none found =
    let first : byte_fault (rows form bytes) ≡ None = rw is at (sym none) in
    let then : least (faulty_lines [] (rows form bytes)) ≡ Some line = rw is at (sym found) in
    rw (first, then) refl

pub by_length : (form : Form) (bytes : List ℕ) (rs : List Row) (ls : List Line) (e : LexError) → rs ≡ rows form bytes → None ≡ byte_fault rs → None ≡ least (faulty_lines [] rs) → ls ≡ logical_lines [] rs → Some e ≡ length_fault ls → IsAnswered form bytes e
unfolding lex
by_length form bytes rs ls e is no_byte no_token joined found =
    let first : byte_fault (rows form bytes) ≡ None = rw is at (sym no_byte) in
    let second : least (faulty_lines [] (rows form bytes)) ≡ None = rw is at (sym no_token) in
    let third : length_fault (logical_lines [] (rows form bytes)) ≡ Some e = rw (joined, is) at (sym found) in
    answered form bytes e (rw (first, second, third) refl)

pub by_lines : (form : Form) (bytes : List ℕ) (rs : List Row) (ls : List Line) → rs ≡ rows form bytes → None ≡ byte_fault rs → None ≡ least (faulty_lines [] rs) → ls ≡ logical_lines [] rs → None ≡ length_fault ls → lex form bytes ≡ Ok ls
unfolding lex
by_lines form bytes rs ls is no_byte no_token joined short =
    let first : byte_fault (rows form bytes) ≡ None = rw is at (sym no_byte) in
    let second : least (faulty_lines [] (rows form bytes)) ≡ None = rw is at (sym no_token) in
    let third : length_fault (logical_lines [] (rows form bytes)) ≡ None = rw (joined, is) at (sym short) in
    let all : logical_lines [] (rows form bytes) ≡ ls = sym (rw is at joined) in
    rw (first, second, third) (ap (λ xs. Ok xs) all)
