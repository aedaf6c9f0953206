-- Alphabets of which each character is from 32 to 126.
use Rattle.std.specs.Prelude.{All}
use Rattle.mpy_tree.specs.Printable.{ArePrintable}
use Rattle.bounds_reader.specs.declared.bounds.Bounds.{Bounds}
use Rattle.bounds_reader.specs.declared.params.Param.{Param}
use Rattle.bounds_reader.specs.declared.params.Param.TheVariants as param

-- if the parameter is a text, then its alphabet is one
abbrev pub IsPrintable : Param → Type 0
IsPrintable (param.Int low high) = Unit {0}
IsPrintable param.Bool = Unit {0}
IsPrintable (param.List least most low high) = Unit {0}
IsPrintable (param.Text least most alphabet) = ArePrintable alphabet

abbrev pub HasPrintable : Bounds → Type 0
HasPrintable b = All IsPrintable b.params
