-- What the ranges of parameters say of bits.
use Rattle.std.specs.Prelude.{◌≡◌, ℕ, ◌<◌, ◌≤◌, ℤ, pos, Bool, true, ◌&&◌, List}
use Rattle.mpy_tree.specs.Printable.{ArePrintable}
use Rattle.bit_words.specs.Words.{fits, int_of, nat_of}
use Rattle.bounds_reader.specs.declared.params.Param.{Param}
use Rattle.bounds_reader.specs.declared.params.Param.TheVariants as param
use Rattle.sym_values.specs.Reading.{Reading}
use Rattle.input_space.specs.Inputs.{is_between, is_within}
use Rattle.input_ranges.specs.Alphabets.{is_among}
use Rattle.input_bits.specs.Layout.{has_characters}

-- the ends of the range of a number, and of a length
abbrev pub lowest : Param → ℤ
lowest (param.Int low high) = low
lowest _ = pos 0

abbrev pub highest : Param → ℤ
highest (param.Int low high) = high
highest _ = pos 0

abbrev pub shortest : Param → ℕ
shortest (param.List least most low high) = least
shortest (param.Text least most alphabet) = least
shortest _ = 0

abbrev pub longest : Param → ℕ
longest (param.List least most low high) = most
longest (param.Text least most alphabet) = most
longest _ = 0

-- an alphabet has characters alone
abbrev pub HasCharacters : Param → Type 0
HasCharacters (param.Text least most alphabet) = ArePrintable alphabet
HasCharacters _ = Unit {0}

-- whether an item of a list or a text is in its range
abbrev pub is_item : Param → List Bool → Bool
is_item (param.List least most low high) word = is_between low high (int_of word)
is_item (param.Text least most alphabet) word = is_among alphabet (nat_of word)
is_item _ word = true

-- the items of a list or a text are as wide as their range asks
abbrev pub HoldsItems : Param → ℕ → Type 0
HoldsItems (param.List least most low high) width =
    (0 < width) × (fits width low ≡ true) × (fits width high ≡ true)
HoldsItems (param.Text least most alphabet) width = width ≤ 32
HoldsItems _ width = Unit {0}

-- a reading is a value of the parameter
abbrev pub is_right : Param → Reading → Bool
is_right p r = r.proper && has_characters r.value && is_within p r.value
