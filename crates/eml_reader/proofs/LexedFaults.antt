-- For what the lines of a file of rules are refused.
use Rattle.std.proofs.Common.{◌≡◌, ℕ, ◌+◌, Bool, true, false, List, [], ◌∷◌, length, nat_lt, Option}
use Rattle.std.proofs.Common.{Some, None, option_map, Ok, Err, IfSome, drop, subst, if◌then◌else◌}
use Rattle.std.specs.Option.{option_or}
use Rattle.std.specs.List.{list_any}
use Rattle.mpy_tree.specs.Leasts.{least}
use Rattle.mpy_lexer.specs.declared.forms.Form.TheVariants.{Rules as of_rules}
use Rattle.mpy_lexer.specs.declared.line.Line.{Line}
use Rattle.mpy_lexer.specs.declared.line.LexCause.{LexCause}
use Rattle.mpy_lexer.specs.declared.line.LexCause.TheVariants as lex_cause
use Rattle.mpy_lexer.specs.declared.line.LexError.{LexError}
use Rattle.mpy_lexer.specs.declared.line.LexError.TheVariants as lex_error
use Rattle.mpy_lexer.specs.Pieces.{parts}
use Rattle.mpy_lexer.specs.PhysicalLines.{byte_cause, byte_order_mark_len, is_foreign}
use Rattle.mpy_lexer.specs.PhysicalLines.{physical_lines, row_of, rows, rows_of}
use Rattle.mpy_lexer.specs.Lexing.{byte_fault, fault_on, faulty_lines, first_fault, length_fault}
use Rattle.mpy_lexer.specs.Lexing.{lex, lines_unless, logical_lines}

-- tabs are at fault in programs alone
abbrev IsOfRules : LexCause → Type 0
IsOfRules lex_cause.Tab = ⊥
IsOfRules _ = Unit {0}

-- such a cause and its line, and no want of memory
abbrev pub IsFault : LexError → Type 0
IsFault (lex_error.Fault c line) = IsOfRules c
IsFault lex_error.NoMemory = ⊥

byte_or_none : (b : Bool) → IfSome (if b then Some lex_cause.Byte else None) IsOfRules
byte_or_none true = tt
byte_or_none false = tt

on_line : (n : ℕ) (c : Option LexCause) → IfSome c IsOfRules → IfSome (fault_on n c) IsFault
on_line n None h = tt
on_line n (Some c) h = h

of_token : (o : Option ℕ)
    → IfSome (option_map (λ line. lex_error.Fault lex_cause.Token line) o) IsFault
of_token None = tt
of_token (Some line) = tt

either_fault : (o p : Option LexError) → IfSome o IsFault → IfSome p IsFault
    → IfSome (option_or o p) IsFault
either_fault None p h g = g
either_fault (Some e) p h g = h

of_bytes : (number from : ℕ) (ls : List (List ℕ))
    → IfSome (byte_fault (rows_of of_rules number from ls)) IsFault
unfolding byte_fault rows_of row_of
of_bytes number from [] = tt
of_bytes number from (l ∷ ls) =
    let c = byte_cause of_rules l (parts of_rules from 0 l) in
    either_fault (fault_on number c)
    (byte_fault (rows_of of_rules (number + 1) (from + length l) ls))
    (on_line number c
    (byte_or_none (list_any (λ p. is_foreign p.sort p.bytes) (parts of_rules from 0 l))))
    (of_bytes (number + 1) (from + length l) ls)

of_source : (bytes : List ℕ) → IfSome (byte_fault (rows of_rules bytes)) IsFault
unfolding rows
of_source bytes =
    let skipped = byte_order_mark_len bytes in
    of_bytes 1 skipped (physical_lines (drop skipped bytes))

long_or : (b : Bool) (line : ℕ) (o : Option LexError) → IfSome o IsFault
    → IfSome (if b then Some (lex_error.Fault lex_cause.LongLine line) else o) IsFault
long_or true line o h = tt
long_or false line o h = h

of_lengths : (ls : List Line) → IfSome (length_fault ls) IsFault
unfolding length_fault
of_lengths [] = tt
of_lengths (l ∷ ls) =
    long_or (nat_lt 400 (length l.tokens)) l.line (length_fault ls) (of_lengths ls)

first_of : (rs : _) → IfSome (byte_fault rs) IsFault → IfSome (first_fault rs) IsFault
first_of rs h =
    let tokens =
    option_map (λ line. lex_error.Fault lex_cause.Token line) (least (faulty_lines [] rs)) in
    let lengths = length_fault (logical_lines [] rs) in
    either_fault (byte_fault rs) (option_or tokens lengths) h
    (either_fault tokens lengths (of_token (least (faulty_lines [] rs)))
    (of_lengths (logical_lines [] rs)))

only_faults : (o : Option LexError) (ls : List Line) (e : LexError) → IfSome o IsFault
    → lines_unless o ls ≡ Err e → IsFault e
only_faults None ls e h l = let z : Ok ls ≡ Err e = l in cc
only_faults (Some d) ls e h l = let same : d ≡ e = cc in subst IsFault same h

pub lexed_fault : (bytes : List ℕ) (e : LexError) → lex of_rules bytes ≡ Err e → IsFault e
unfolding lex
lexed_fault bytes e l =
    let rs = rows of_rules bytes in
    only_faults (first_fault rs) (logical_lines [] rs) e (first_of rs (of_source bytes)) l
