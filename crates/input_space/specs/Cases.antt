-- The values that the text of a case spells: one after the other, with a comma and a space between
-- each two.
use Rattle.std.specs.Prelude.{◌≡◌, ℕ, true, List, ◌++◌, Some, ℤ, codes}
use Rattle.std.specs.List.{AllZip}
use Rattle.std.specs.Fmt.{signed_decimal}
use Rattle.mpy_tree.specs.declared.value.Value.{Value}
use Rattle.mpy_tree.specs.declared.value.Value.TheVariants as value
use Rattle.mpy_tree.specs.Operations.{fits_width}
use Rattle.mpy_tree.specs.Printing.{commas, truth_text}
use Rattle.mpy_lexer.specs.TextLiterals.{literal_characters}

-- texts with a comma and a space between each two, each of which spells what stands at its place
pub record SpellsEach {A : Type 0} (Spells : List ℕ → A → Type 0) (text : List ℕ) (xs : List A)
    : Type 0 where
  pub pieces : List (List ℕ)
  pub joined : text ≡ commas pieces
  pub spelled : AllZip Spells pieces xs

-- a number of 32 bits, in decimal and with a minus where it is negative
pub record SpellsNumber (text : List ℕ) (z : ℤ) : Type 0 where
  pub written : text ≡ signed_decimal z
  pub fits : fits_width 32 z ≡ true

-- numbers between square brackets
pub record SpellsNumbers (text : List ℕ) (zs : List ℤ) : Type 0 where
  pub inner : List ℕ
  pub bracketed : text ≡ codes "[" ++ inner ++ codes "]"
  pub spelled : SpellsEach SpellsNumber inner zs

-- a text stands between quotes of either kind, with its escapes
abbrev pub SpellsValue : List ℕ → Value → Type 0
SpellsValue text (value.Int z) = SpellsNumber text z
SpellsValue text (value.Bool b) = text ≡ truth_text b
SpellsValue text (value.List zs) = SpellsNumbers text zs
SpellsValue text (value.Text cs) = literal_characters text ≡ Some cs

-- the empty text is the case of no values
abbrev pub SpellsCase : List ℕ → List Value → Type 0
SpellsCase text vs = SpellsEach SpellsValue text vs
