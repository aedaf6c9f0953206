-- Each text spells a program within the limits or is refused, as one step after another finds.
use Rattle.std.proofs.Common.{◌≡◌, ℕ, Bool, true, false, nat_lt, length, if◌then◌else◌, ◌⊎◌, inl, inr, List, [], ◌∷◌, Option, Some, None, option_map, Result, Ok, Err, IfSome, refl, ap, sym, ◌∙◌}
use Rattle.std.specs.Option.{option_or}
use Rattle.mpy_tree.specs.declared.refusal.Cause.TheVariants as cause
use Rattle.mpy_tree.specs.Syntax.{Routine}
use Rattle.mpy_lexer.specs.declared.forms.Form.TheVariants.{Program}
use Rattle.mpy_lexer.specs.declared.line.Line.{Line}
use Rattle.mpy_lexer.specs.declared.line.LexCause.{LexCause}
use Rattle.mpy_lexer.specs.declared.line.LexCause.TheVariants as lex_cause
use Rattle.mpy_lexer.specs.declared.line.LexError.{LexError}
use Rattle.mpy_lexer.specs.declared.line.LexError.TheVariants as lex_error
use Rattle.mpy_tree.specs.Leasts.{least}
use Rattle.mpy_lexer.specs.PhysicalLines.{rows}
use Rattle.mpy_lexer.specs.Lexing.{lex, byte_fault, fault_on, faulty_lines, first_fault, length_fault, lines_unless, logical_lines}
use Rattle.mpy_limits.specs.Limits.{limit_lines}
use Rattle.mpy_expressions.specs.Terminals.{terminals}
use Rattle.mpy_parser.specs.Items.{LineItem}
use Rattle.mpy_parser.specs.ItemReading.{item_at}
use Rattle.mpy_parser.specs.Nesting.{ItemLine, item_line}
use Rattle.mpy_parser.specs.Faults.{indent_fault, block_fault}
use Rattle.mpy_parser.specs.Programs.{IsItem, AreItems, IsFirstUnspelled, HasNoLongLine, Reads, by_lexing, by_columns, by_blocks, by_limits, lexing_cause}
use Rattle.mpy_parser.specs.ProgramLaws.{IsJudged}
use Rattle.mpy_parser.proofs.LinesSpelled.{spelled_by, not_spelled_by}
use Rattle.mpy_parser.proofs.Fine.{fine_lines, same_indents}
use Rattle.mpy_parser.proofs.Nests.{nests}
use Rattle.mpy_parser.proofs.OneAnswer.{has_lines, has_no_long_line}
use Rattle.mpy_parser.proofs.Steps.{item_refused}
use Rattle.mpy_tree.proofs.Leasts.{none_least}

-- a cause and a line, and no want of memory
abbrev IsFault : LexError → Type 0
IsFault (lex_error.Fault c line) = Unit {0}
IsFault lex_error.NoMemory = ⊥

on_line : (n : ℕ) (c : Option LexCause) → IfSome (fault_on n c) IsFault
on_line n None = tt
on_line n (Some c) = tt

of_cause : (c : LexCause) (o : Option ℕ) → IfSome (option_map (λ line. lex_error.Fault c line) o) IsFault
of_cause c None = tt
of_cause c (Some line) = tt

either_fault : (o p : Option LexError) → IfSome o IsFault → IfSome p IsFault → IfSome (option_or o p) IsFault
either_fault None p h g = g
either_fault (Some e) p h g = h

of_bytes : (rs : _) → IfSome (byte_fault rs) IsFault
unfolding byte_fault
of_bytes [] = tt
of_bytes (r ∷ rs) = either_fault (fault_on r.number r.cause) (byte_fault rs) (on_line r.number r.cause) (of_bytes rs)

long_or : (b : Bool) (line : ℕ) (o : Option LexError) → IfSome o IsFault → IfSome (if b then Some (lex_error.Fault lex_cause.LongLine line) else o) IsFault
long_or true line o h = tt
long_or false line o h = h

of_lengths : (ls : List Line) → IfSome (length_fault ls) IsFault
unfolding length_fault
of_lengths [] = tt
of_lengths (l ∷ ls) = long_or (nat_lt 400 (length l.tokens)) l.line (length_fault ls) (of_lengths ls)

of_rows : (rs : _) → IfSome (first_fault rs) IsFault
of_rows rs =
    let tokens = option_map (λ line. lex_error.Fault lex_cause.Token line) (least (faulty_lines [] rs)) in
    let lengths = length_fault (logical_lines [] rs) in
    either_fault (byte_fault rs) (option_or tokens lengths) (of_bytes rs)
    (either_fault tokens lengths (of_cause lex_cause.Token (least (faulty_lines [] rs))) (of_lengths (logical_lines [] rs)))

no_want : (o : Option LexError) (ls : List Line) → IfSome o IsFault → lines_unless o ls ≡ Err lex_error.NoMemory → ⊥
no_want None ls h e = let z : Ok ls ≡ Err lex_error.NoMemory = e in cc
no_want (Some (lex_error.Fault c line)) ls h e = let z : Err (lex_error.Fault c line) ≡ Err lex_error.NoMemory = e in cc
no_want (Some lex_error.NoMemory) ls h e = h

never_wants : (bytes : List ℕ) → lex Program bytes ≡ Err lex_error.NoMemory → ⊥
unfolding lex
never_wants bytes e = let rs = rows Program bytes in no_want (first_fault rs) (logical_lines [] rs) (of_rows rs) e

-- all lines spell items, or a first one spells none
abbrev AreSpelled : List Line → Type 0
AreSpelled ls = ((is : List ItemLine) × AreItems ls is) ⊎ ((line : ℕ) × IsFirstUnspelled ls line)

its_item : (l : Line) (i : LineItem) → item_at (terminals l.tokens) ≡ Some i → IsItem l (item_line l.line l.column i)
its_item l i h = record { line = refl; column = refl; item = spelled_by (terminals l.tokens) i h }

with_first : (l : Line) (ls : List Line) (o : Option LineItem) → item_at (terminals l.tokens) ≡ o → AreSpelled ls → AreSpelled (l ∷ ls)
with_first l ls None h rest = inr (
  l.line,
  record {
    before = [];
    first = l;
    rest = ls;
    items = [];
    cut = refl;
    spelled = tt;
    unspelled = not_spelled_by (terminals l.tokens) h;
    line_is = refl;
  },
)
with_first l ls (Some i) h (inl s) = inl (item_line l.line l.column i ∷ s.0, (its_item l i h, s.1))
with_first l ls (Some i) h (inr u) = inr (
  u.0,
  record {
    before = l ∷ u.1.before;
    first = u.1.first;
    rest = u.1.rest;
    items = item_line l.line l.column i ∷ u.1.items;
    cut = ap (λ x. l ∷ x) u.1.cut;
    spelled = (its_item l i h, u.1.spelled);
    unspelled = u.1.unspelled;
    line_is = u.1.line_is;
  },
)

are_spelled : (ls : List Line) → AreSpelled ls
are_spelled [] = inl ([], tt)
are_spelled (l ∷ ls) = with_first l ls (item_at (terminals l.tokens)) refl (are_spelled ls)

by_limit : (bytes : List ℕ) (rs : List Routine) → Reads bytes rs → HasNoLongLine bytes → (o : Option ℕ) → least (limit_lines rs) ≡ o → IsJudged bytes
by_limit bytes rs r short None h = inl (rs, record { reads = r; short = short; small = none_least (limit_lines rs) h })
by_limit bytes rs r short (Some line) h = inr (cause.Limit, line, by_limits rs line r short h)

by_block : (bytes : List ℕ) (ls : List Line) (is : List ItemLine) → lex Program bytes ≡ Ok ls → indent_fault [] ls ≡ None → AreItems ls is → (o : Option ℕ) → block_fault [] is ≡ o → IsJudged bytes
by_block bytes ls is e f s None h =
    let n = nests is (fine_lines [] is (sym (same_indents [] ls is s) ∙ f) h) in
    let r : Reads bytes n.0 = record { lines = ls; items = is; lexed = has_lines bytes ls e; spelled = s; nested = n.1 } in
    by_limit bytes n.0 r (has_no_long_line bytes ls e) (least (limit_lines n.0)) refl
by_block bytes ls is e f s (Some line) h = inr (cause.Block, line, by_blocks ls is line e f s h)

by_items : (bytes : List ℕ) (ls : List Line) → lex Program bytes ≡ Ok ls → indent_fault [] ls ≡ None → AreSpelled ls → IsJudged bytes
by_items bytes ls e f (inl s) = by_block bytes ls s.0 e f s.1 (block_fault [] s.0) refl
by_items bytes ls e f (inr u) = inr (cause.Syntax, u.0, item_refused bytes ls u.0 e f u.1)

by_column : (bytes : List ℕ) (ls : List Line) → lex Program bytes ≡ Ok ls → (o : Option ℕ) → indent_fault [] ls ≡ o → IsJudged bytes
by_column bytes ls e None h = by_items bytes ls e h (are_spelled ls)
by_column bytes ls e (Some line) h = inr (cause.Indent, line, by_columns ls line e h)

by_lines : (bytes : List ℕ) (r : Result (List Line) LexError) → lex Program bytes ≡ r → IsJudged bytes
by_lines bytes (Ok ls) e = by_column bytes ls e (indent_fault [] ls) refl
by_lines bytes (Err (lex_error.Fault c line)) e = inr (lexing_cause c, line, by_lexing c line e)
by_lines bytes (Err lex_error.NoMemory) e = absurd (never_wants bytes e)

pub judged : (bytes : List ℕ) → IsJudged bytes
judged bytes = by_lines bytes (lex Program bytes) refl
