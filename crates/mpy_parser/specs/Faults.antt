-- Where logical lines don't nest: the faults of columns, and those of blocks. The lines before one
-- are listed with the nearest first.
use Rattle.std.specs.Prelude.{ℕ, Bool, true, false, not, ◌&&◌, ◌||◌, ◌==◌, nat_lt, List, [], ◌∷◌}
use Rattle.std.specs.Prelude.{Option, Some, None, if◌then◌else◌}
use Rattle.mpy_tree.specs.Syntax.{Action}
use Rattle.mpy_tree.specs.Syntax as ast
use Rattle.mpy_lexer.specs.declared.line.Line.{Line}
use Rattle.mpy_parser.specs.Items.{function, when, else_when, otherwise, while, for_each, LineItem}
use Rattle.mpy_parser.specs.Items.{simple, headed}
use Rattle.mpy_parser.specs.Nesting.{ItemLine}

-- whether the nearest of the lines that aren't deeper has this very column
abbrev pub returns_to : ℕ → List ℕ → Bool
returns_to c [] = false
returns_to c (d ∷ ds) = if nat_lt c d then returns_to c ds else c == d

-- the first line has a column above 0, or a line falls to a column that no line above it opened
abbrev pub is_indent_fault : ℕ → List ℕ → Bool
is_indent_fault c [] = nat_lt 0 c
is_indent_fault c (d ∷ ds) = nat_lt c d && not (returns_to c ds)

-- the first line whose column is at fault
unfoldable pub indent_fault : List ℕ → List Line → Option ℕ
indent_fault before [] = None
indent_fault before (l ∷ ls) =
    if is_indent_fault l.column before then Some l.line else indent_fault (l.column ∷ before) ls

-- a header with nothing behind its colon
abbrev pub is_open : LineItem → Bool
is_open (simple act) = false
is_open (headed h None) = true
is_open (headed h (Some act)) = false

-- an `if` or an `elif`
abbrev pub is_arm : LineItem → Bool
is_arm (headed (when e) m) = true
is_arm (headed (else_when e) m) = true
is_arm _ = false

-- an `elif` or an `else`
abbrev pub goes_on_arm : LineItem → Bool
goes_on_arm (headed (else_when e) m) = true
goes_on_arm (headed otherwise m) = true
goes_on_arm _ = false

abbrev pub is_function : LineItem → Bool
is_function (headed (function f params) m) = true
is_function _ = false

abbrev pub is_loop : LineItem → Bool
is_loop (headed (while e) m) = true
is_loop (headed (for_each x e) m) = true
is_loop _ = false

-- a `break` or a `continue`
abbrev pub leaves_turn : Action → Bool
leaves_turn (ast.Assign x e) = false
leaves_turn (ast.Augment x op e) = false
leaves_turn (ast.Put x i e) = false
leaves_turn (ast.AugmentAt x i op e) = false
leaves_turn (ast.Append x e) = false
leaves_turn (ast.Print e) = false
leaves_turn (ast.Return e) = false
leaves_turn ast.Pass = false
leaves_turn ast.Break = true
leaves_turn ast.Continue = true
leaves_turn (ast.If arms last) = false
leaves_turn (ast.While e body) = false
leaves_turn (ast.For x e body) = false

abbrev pub leaves : LineItem → Bool
leaves (simple act) = leaves_turn act
leaves (headed h None) = false
leaves (headed h (Some act)) = leaves_turn act

-- whether the nearest of the lines that aren't deeper has this column and is an arm
abbrev pub follows_arm : ℕ → List ItemLine → Bool
follows_arm c [] = false
follows_arm c (l ∷ ls) =
    if nat_lt c l.column then follows_arm c ls else l.column == c && is_arm l.item

-- whether one of the headers round a line of this column is a loop: each is the nearest line that
-- is less deep
abbrev pub in_loop : ℕ → List ItemLine → Bool
in_loop c [] = false
in_loop c (l ∷ ls) =
    if nat_lt l.column c then is_loop l.item || in_loop l.column ls else in_loop c ls

-- deeper than a line that isn't an open header
abbrev pub is_stray : ℕ → List ItemLine → Bool
is_stray c [] = false
is_stray c (l ∷ ls) = nat_lt l.column c && not (is_open l.item)

-- the next line is deeper
abbrev pub has_deeper : ℕ → List ItemLine → Bool
has_deeper c [] = false
has_deeper c (l ∷ ls) = nat_lt c l.column

abbrev pub is_block_fault : List ItemLine → ItemLine → List ItemLine → Bool
is_block_fault before l rest =
    is_stray l.column before
    || (is_open l.item && not (has_deeper l.column rest))
    || (goes_on_arm l.item && not (follows_arm l.column before))
    || not ((l.column == 0 && is_function l.item)
    || (not (l.column == 0) && not (is_function l.item)))
    || (leaves l.item && not (is_loop l.item || in_loop l.column before))

-- the first line whose block is at fault
unfoldable pub block_fault : List ItemLine → List ItemLine → Option ℕ
block_fault before [] = None
block_fault before (l ∷ rest) =
    if is_block_fault before l rest then Some l.line else block_fault (l ∷ before) rest
