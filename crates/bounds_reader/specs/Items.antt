-- The items of a bounds file, one a line.
use Rattle.std.specs.Prelude.{◌≡◌, ℕ, ℤ, Bool, true, not, ◌&&◌, List, [], ◌∷◌, ◌++◌, nat_abs}
use Rattle.std.specs.Prelude.{nat_lt}
use Rattle.std.specs.Prelude.{codes}
use Rattle.std.specs.Fmt.{signed_decimal}
use Rattle.mpy_lexer.specs.TokenForms.{is_name}
use Rattle.mpy_lexer.specs.Words.{is_reserved}
use Rattle.bounds_reader.specs.declared.place.Place.{Place}
use Rattle.bounds_reader.specs.declared.place.Place.TheVariants as place
use Rattle.bounds_reader.specs.Forms.{Form, int, bool, list, text}
use Rattle.bounds_reader.specs.Words.{Word, plain, literal, Carries}

pub data Item : Type 0 where
  width : (number : ℤ) → Item
  turns : (number : ℤ) → Item
  depth : (number : ℤ) → Item
  cap : (number : ℤ) → Item
  entry : (name : List ℕ) → Item
  param : (name : List ℕ) (form : Form) → Item
  -- so many printed values are compared
  compare : (number : ℤ) → Item

abbrev pub number_word : ℤ → Word
number_word z = plain (signed_decimal z)

-- A..B is one word
abbrev pub span_word : ℤ → ℤ → Word
span_word a b = plain (signed_decimal a ++ codes ".." ++ signed_decimal b)

abbrev pub form_words : Form → List Word
form_words (int low high) = plain (codes "int") ∷ span_word low high ∷ []
form_words bool = plain (codes "bool") ∷ []
form_words (list least most low high) =
    plain (codes "list") ∷ span_word least most ∷ plain (codes "of") ∷ span_word low high ∷ []
form_words (text least most alphabet) =
    plain (codes "text") ∷ span_word least most ∷ plain (codes "of") ∷ literal alphabet ∷ []

-- the words that spell the item
abbrev pub item_words : Item → List Word
item_words (width z) = plain (codes "width") ∷ number_word z ∷ []
item_words (turns z) = plain (codes "turns") ∷ number_word z ∷ []
item_words (depth z) = plain (codes "depth") ∷ number_word z ∷ []
item_words (cap z) = plain (codes "cap") ∷ number_word z ∷ []
item_words (entry x) = plain (codes "entry") ∷ plain x ∷ []
item_words (param x f) = plain (codes "param") ∷ plain x ∷ form_words f
item_words (compare z) = plain (codes "compare") ∷ plain (codes "printed") ∷ number_word z ∷ []

-- a number of at most nine digits
abbrev pub is_short : ℤ → Bool
is_short z = nat_lt (nat_abs z) 1000000000

-- the form of a name, and no reserved word
abbrev pub is_plain_name : List ℕ → Bool
is_plain_name x = is_name x && not (is_reserved x)

abbrev pub is_proper_form : Form → Bool
is_proper_form (int low high) = is_short low && is_short high
is_proper_form bool = true
is_proper_form (list least most low high) =
    (is_short least && is_short most) && (is_short low && is_short high)
is_proper_form (text least most alphabet) = is_short least && is_short most

abbrev pub is_proper : Item → Bool
is_proper (width z) = is_short z
is_proper (turns z) = is_short z
is_proper (depth z) = is_short z
is_proper (cap z) = is_short z
is_proper (entry x) = is_plain_name x
is_proper (param x f) = is_plain_name x && is_proper_form f
is_proper (compare z) = is_short z

-- where an item stands: what is compared stands where one more parameter might
abbrev pub place_of : Item → Place
place_of (width z) = place.Width
place_of (turns z) = place.Turns
place_of (depth z) = place.Depth
place_of (cap z) = place.Cap
place_of (entry x) = place.Entry
place_of (param x f) = place.Param
place_of (compare z) = place.Param

-- The place behind an item: parameters stand behind the entry, as many as there are, and nothing
-- behind what is compared.
abbrev pub behind : Item → Place
behind (width z) = place.Turns
behind (turns z) = place.Depth
behind (depth z) = place.Cap
behind (cap z) = place.Entry
behind (entry x) = place.Param
behind (param x f) = place.Param
behind (compare z) = place.End

-- the line spells the item, which has this place
pub record SpellsItem (p : Place) (line : List ℕ) (i : Item) : Type 0 where
  pub words : Carries line (item_words i)
  pub proper : is_proper i ≡ true
  pub place : place_of i ≡ p
