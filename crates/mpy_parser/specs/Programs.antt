-- Which program a text spells, and which texts are refused.
use Rattle.std.specs.Prelude.{◌≡◌, ℕ, List, [], ◌∷◌, ◌++◌, Some, None, Result, Ok, Err}
use Rattle.mpy_tree.specs.declared.refusal.Cause.{Cause}
use Rattle.mpy_tree.specs.declared.refusal.Cause.TheVariants as cause
use Rattle.mpy_tree.specs.declared.tree.Prog.{Prog}
use Rattle.mpy_tree.specs.Syntax.{Routine}
use Rattle.mpy_tree.specs.View.{routines_of}
use Rattle.mpy_parser.specs.declared.read_error.ReadError.{ReadError}
use Rattle.mpy_parser.specs.declared.read_error.ReadError.TheVariants as read_error
use Rattle.mpy_lexer.specs.declared.forms.Form.TheVariants.{Program}
use Rattle.mpy_lexer.specs.declared.line.Line.{Line}
use Rattle.mpy_lexer.specs.declared.line.LexCause.{LexCause}
use Rattle.mpy_lexer.specs.declared.line.LexCause.TheVariants as lex_cause
use Rattle.mpy_lexer.specs.declared.line.LexError.TheVariants as lex_error
use Rattle.mpy_tree.specs.Leasts.{least}
use Rattle.mpy_lexer.specs.Lexing.{lex, byte_fault, token_fault, length_fault, logical_lines}
use Rattle.mpy_lexer.specs.PhysicalLines.{rows}
use Rattle.mpy_expressions.specs.Terminals.{terminals}
use Rattle.mpy_parser.specs.Items.{LineItem, SpellsItem}
use Rattle.mpy_parser.specs.Nesting.{ItemLine, AreRoutines}
use Rattle.mpy_parser.specs.Faults.{indent_fault, block_fault}
use Rattle.mpy_limits.specs.Limits.{limit_lines}

-- a logical line spells the item, on its line and at its column
pub record IsItem (l : Line) (i : ItemLine) : Type 0 where
  pub line : i.line ≡ l.line
  pub column : i.column ≡ l.column
  pub item : SpellsItem (terminals l.tokens) i.item

abbrev pub AreItems : List Line → List ItemLine → Type 0
AreItems [] [] = Unit {0}
AreItems [] (i ∷ is) = ⊥
AreItems (l ∷ ls) [] = ⊥
AreItems (l ∷ ls) (i ∷ is) = IsItem l i × AreItems ls is

-- a logical line spells no item
abbrev pub NotSpelled : Line → Type 0
NotSpelled l = (i : LineItem) → SpellsItem (terminals l.tokens) i → ⊥

-- the first logical line that spells no item stands there
pub record IsFirstUnspelled (ls : List Line) (line : ℕ) : Type 0 where
  pub before : List Line
  pub first : Line
  pub rest : List Line
  pub items : List ItemLine
  pub cut : ls ≡ before ++ first ∷ rest
  pub spelled : AreItems before items
  pub unspelled : NotSpelled first
  pub line_is : line ≡ first.line

-- the logical lines of a text whose bytes and tokens have no fault, however long they are
pub record HasLines (bytes : List ℕ) (ls : List Line) : Type 0 where
  pub no_byte_fault : byte_fault (rows Program bytes) ≡ None
  pub no_token_fault : token_fault (rows Program bytes) ≡ None
  pub lines : logical_lines [] (rows Program bytes) ≡ ls

-- The logical lines of the text spell items that nest as these functions. Limits are no part of it.
pub record Reads (bytes : List ℕ) (rs : List Routine) : Type 0 where
  pub lines : List Line
  pub items : List ItemLine
  pub lexed : HasLines bytes lines
  pub spelled : AreItems lines items
  pub nested : AreRoutines items rs

-- no logical line has more than 400 tokens
abbrev pub HasNoLongLine : List ℕ → Type 0
HasNoLongLine bytes = length_fault (logical_lines [] (rows Program bytes)) ≡ None

-- a program that no limit refuses
pub record IsProgram (bytes : List ℕ) (rs : List Routine) : Type 0 where
  pub reads : Reads bytes rs
  pub short : HasNoLongLine bytes
  pub small : limit_lines rs ≡ []

abbrev pub lexing_cause : LexCause → Cause
lexing_cause lex_cause.Byte = cause.Byte
lexing_cause lex_cause.Tab = cause.Tab
lexing_cause lex_cause.Token = cause.Token
lexing_cause lex_cause.LongLine = cause.Limit

-- The first cause for which a text is refused. Each step goes over the whole text before the next:
-- bytes, tokens and long lines; columns; items; blocks; limits.
pub data IsRefused (bytes : List ℕ) : Cause → ℕ → Type 0 where
  by_lexing : (c : LexCause) (line : ℕ)
      → lex Program bytes ≡ Err (lex_error.Fault c line)
      → IsRefused bytes (lexing_cause c) line
  by_columns : (ls : List Line) (line : ℕ)
      → lex Program bytes ≡ Ok ls
      → indent_fault [] ls ≡ Some line
      → IsRefused bytes cause.Indent line
  by_item : (before : List Line) (l : Line) (rest : List Line) (is : List ItemLine)
      → lex Program bytes ≡ Ok (before ++ l ∷ rest)
      → indent_fault [] (before ++ l ∷ rest) ≡ None
      → AreItems before is
      → NotSpelled l
      → IsRefused bytes cause.Syntax l.line
  by_blocks : (ls : List Line) (is : List ItemLine) (line : ℕ)
      → lex Program bytes ≡ Ok ls
      → indent_fault [] ls ≡ None
      → AreItems ls is
      → block_fault [] is ≡ Some line
      → IsRefused bytes cause.Block line
  by_limits : (rs : List Routine) (line : ℕ)
      → Reads bytes rs
      → HasNoLongLine bytes
      → least (limit_lines rs) ≡ Some line
      → IsRefused bytes cause.Limit line

-- a cause and line are answered where they are the first; want of memory may be answered for any
-- text
abbrev pub IsAnswered : List ℕ → ReadError → Type 0
IsAnswered bytes (read_error.Fault c line) = IsRefused bytes c line
IsAnswered bytes read_error.NoMemory = Unit {0}

-- the program is given, unless memory lacked
abbrev pub IsGiven : List Routine → Result Prog ReadError → Type 0
IsGiven rs (Ok p) = routines_of p ≡ rs
IsGiven rs (Err (read_error.Fault c line)) = ⊥
IsGiven rs (Err read_error.NoMemory) = Unit {0}

-- the text is refused so, unless memory lacked
abbrev pub IsRefusal : Cause → ℕ → Result Prog ReadError → Type 0
IsRefusal c line (Ok p) = ⊥
IsRefusal c line (Err (read_error.Fault d m)) = (d ≡ c) × (m ≡ line)
IsRefusal c line (Err read_error.NoMemory) = Unit {0}
