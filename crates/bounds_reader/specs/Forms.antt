-- What the line of a parameter says, in numbers that may be out of range.
use Rattle.std.specs.Prelude.{ℕ, ℤ, pos, List}
use Rattle.bounds_reader.specs.declared.params.Param.{Param}
use Rattle.bounds_reader.specs.declared.params.Param.TheVariants as param

pub data Form : Type 0 where
  int : (low high : ℤ) → Form
  bool : Form
  list : (least most low high : ℤ) → Form
  text : (least most : ℤ) (alphabet : List ℕ) → Form

-- the form that says of a parameter what it is
abbrev pub form_of : Param → Form
form_of (param.Int low high) = int low high
form_of param.Bool = bool
form_of (param.List least most low high) = list (pos least) (pos most) low high
form_of (param.Text least most alphabet) = text (pos least) (pos most) alphabet
