-- What the code's readings are as mathematics.
use Rattle.std.specs.Prelude.{List, option_map, map}
use Rattle.mpy_tree.specs.View.{term_of, action_of}
use Rattle.mpy_parser.specs.declared.items.Header.{Header}
use Rattle.mpy_parser.specs.declared.items.Header.TheVariants as header
use Rattle.mpy_parser.specs.declared.items.Item.{Item}
use Rattle.mpy_parser.specs.declared.items.Item.TheVariants as item
use Rattle.mpy_parser.specs.declared.entries.Entry.{Entry}
use Rattle.mpy_parser.specs.Items.{Opening, function, when, else_when, otherwise, while, for_each}
use Rattle.mpy_parser.specs.Items.{LineItem, simple, headed}
use Rattle.mpy_parser.specs.Nesting.{ItemLine}

abbrev pub opening_of : Header → Opening
opening_of (header.Def f params) = function f params
opening_of (header.If e) = when (term_of e)
opening_of (header.Elif e) = else_when (term_of e)
opening_of header.Else = otherwise
opening_of (header.While e) = while (term_of e)
opening_of (header.For x e) = for_each x (term_of e)

abbrev pub item_of : Item → LineItem
item_of (item.Simple act) = simple (action_of act)
item_of (item.Headed h body) = headed (opening_of h) (option_map action_of body)

abbrev pub line_of : Entry → ItemLine
line_of e = record { line = e.line; column = e.column; item = item_of e.item }

abbrev pub lines_of : List Entry → List ItemLine
lines_of es = map line_of es
