-- Laws of the texts of cases.
use Rattle.std.specs.Prelude.{◌≡◌, ℕ, true, List, All}
use Rattle.mpy_tree.specs.declared.value.Value.{Value}
use Rattle.mpy_tree.specs.declared.value.Value.TheVariants as value
use Rattle.mpy_tree.specs.Operations.{fits_width}
use Rattle.mpy_tree.specs.Printable.{ArePrintable}
use Rattle.mpy_tree.specs.Printing.{values_text}
use Rattle.input_space.specs.Cases.{SpellsCase}

-- a text spells one case at most
abbrev pub OneCase : Type 0
OneCase = (text : List ℕ) (vs ws : List Value) → SpellsCase text vs → SpellsCase text ws → vs ≡ ws

-- numbers of 32 bits, and characters from 32 to 126
abbrev pub IsPrintable : Value → Type 0
IsPrintable (value.Int z) = fits_width 32 z ≡ true
IsPrintable (value.Bool b) = Unit {0}
IsPrintable (value.List zs) = All (λ z. fits_width 32 z ≡ true) zs
IsPrintable (value.Text cs) = ArePrintable cs

-- the text of printable values spells them
abbrev pub PrintedIsRead : Type 0
PrintedIsRead = (vs : List Value) → All IsPrintable vs → SpellsCase (values_text vs) vs
