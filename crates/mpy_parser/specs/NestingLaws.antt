-- What the faults of lines are to the blocks that they nest as.
use Rattle.std.specs.Prelude.{◌≡◌, List, [], None}
use Rattle.mpy_tree.specs.Syntax.{Routine}
use Rattle.mpy_lexer.specs.declared.line.Line.{Line}
use Rattle.mpy_parser.specs.Nesting.{ItemLine, AreRoutines}
use Rattle.mpy_parser.specs.Faults.{indent_fault, block_fault}
use Rattle.mpy_parser.specs.Indents.{item_indent_fault}
use Rattle.mpy_parser.specs.Programs.{AreItems}

-- lines that nest have no fault of blocks
abbrev pub NestedWithoutBlockFault : Type 0
NestedWithoutBlockFault =
    (is : List ItemLine) (rs : List Routine) → AreRoutines is rs → block_fault [] is ≡ None

-- nor of columns
abbrev pub NestedWithoutIndentFault : Type 0
NestedWithoutIndentFault =
    (is : List ItemLine) (rs : List Routine) → AreRoutines is rs → item_indent_fault [] is ≡ None

-- lines without either nest
abbrev pub NestedWithoutFault : Type 0
NestedWithoutFault =
    (is : List ItemLine) → item_indent_fault [] is ≡ None → block_fault [] is ≡ None
    → (rs : List Routine) × AreRoutines is rs

-- in one way at most
abbrev pub NestedInOneWay : Type 0
NestedInOneWay =
    (is : List ItemLine) (rs qs : List Routine) → AreRoutines is rs → AreRoutines is qs → rs ≡ qs

-- the faults of columns are the same with the items of the lines
abbrev pub SameIndentFault : Type 0
SameIndentFault =
    (ls : List Line) (is : List ItemLine) → AreItems ls is → indent_fault [] ls
    ≡ item_indent_fault [] is
