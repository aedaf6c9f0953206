-- The faults of columns, of lines with their items.
use Rattle.std.specs.Prelude.{ℕ, List, [], ◌∷◌, Option, Some, None, if◌then◌else◌}
use Rattle.mpy_parser.specs.Nesting.{ItemLine}
use Rattle.mpy_parser.specs.Faults.{is_indent_fault}

-- the first line whose column is at fault below these columns, the nearest first
unfoldable pub item_indent_fault : List ℕ → List ItemLine → Option ℕ
item_indent_fault before [] = None
item_indent_fault before (l ∷ ls) =
    if is_indent_fault l.column before then Some l.line
    else item_indent_fault (l.column ∷ before) ls
