-- Columns: the values at one place of the cases, and the numbers by which their bits are given.
use Rattle.std.specs.Prelude.{◌≡◌, ◌<◌, ℕ, true, List, All, length, get_or, pos, Option, Some}
use Rattle.std.specs.Prelude.{slice_get}
use Rattle.std.specs.Int.{cast_unsigned, w32}
use Rattle.mpy_tree.specs.declared.limits.Limits.{Limits}
use Rattle.mpy_tree.specs.declared.typing.Ty.{Ty}
use Rattle.mpy_tree.specs.declared.value.Value.{Value}
use Rattle.mpy_tree.specs.declared.value.Value.TheVariants as val
use Rattle.mpy_tree.specs.Fitting.{fits_as}
use Rattle.mpy_tree.specs.Options.{◌>>=◌}
use Rattle.mpy_tree.specs.Printable.{ArePrintable}
use Rattle.input_space.specs.declared.case.Case.{Case}
use Rattle.bit_words.specs.Words.{bit_value}
use Rattle.bit_lanes.specs.LaneCases.{case_in}

-- the value of a lane at a place
abbrev pub value_in : List Case → ℕ → ℕ → Option Value
value_in cases place lane = case_in cases lane >>= λ c. slice_get c.values place

-- the value of a case at a place is there, has the type and fits
pub record HasFitting (l : Limits) (t : Ty) (place : ℕ) (c : Case) : Type 0 where
  pub value : Value
  pub there : slice_get c.values place ≡ Some value
  pub fit : fits_as l t value ≡ true

-- so have some cases, which are at least one
pub record IsColumn (l : Limits) (t : Ty) (cases : List Case) (place : ℕ) : Type 0 where
  pub some : 0 < length cases
  pub each : All (HasFitting l t place) cases

-- a number in two's complement, a truth value as 0 or 1, and the length of a list or a text
abbrev pub head_of : Value → ℕ
head_of (val.Int z) = cast_unsigned w32 z
head_of (val.Bool b) = bit_value b
head_of (val.List zs) = length zs
head_of (val.Text cs) = length cs

-- the element of a list in two's complement, or the character of a text, and 0 past the end
abbrev pub item_of : ℕ → Value → ℕ
item_of i (val.Int z) = 0
item_of i (val.Bool b) = 0
item_of i (val.List zs) = cast_unsigned w32 (get_or zs i (pos 0))
item_of i (val.Text cs) = get_or cs i 0

-- a number for each lane, which is what a function gives of the lane's value
pub record GivesLanes (f : Value → ℕ) (cases : List Case) (place : ℕ) (column : List ℕ)
    : Type 0 where
  pub many : length column ≡ 64
  pub each : (lane : ℕ) (v : Value) → lane < 64 → value_in cases place lane ≡ Some v
      → slice_get column lane ≡ Some (f v)

-- the characters of a value that is a text are printable
abbrev pub HasPrintable : Value → Type 0
HasPrintable (val.Text cs) = ArePrintable cs
HasPrintable _ = Unit {0}

-- so are those of the values at a place
abbrev pub HavePrintable : List Case → ℕ → Type 0
HavePrintable cases place =
    (lane : ℕ) (v : Value) → lane < 64 → value_in cases place lane ≡ Some v → HasPrintable v
