-- Lines of a bounds file read from the left, word by word.
use Rattle.std.specs.Prelude.{ℕ, Bool, not, ◌&&◌, ◌||◌, ◌==◌, List, [], ◌∷◌, length, take, drop}
use Rattle.std.specs.Prelude.{ℤ, Option, Some, None, option_map, if◌then◌else◌, codes}
use Rattle.std.specs.List.{prefix_len}
use Rattle.mpy_tree.specs.Values.{same_bytes}
use Rattle.mpy_lexer.specs.Bytes.{is_white}
use Rattle.bounds_reader.specs.declared.place.Place.{Place}
use Rattle.bounds_reader.specs.declared.place.Place.TheVariants as place
use Rattle.bounds_reader.specs.Forms.{Form, int, bool, list, text}
use Rattle.bounds_reader.specs.Words.{is_plain, ends_word, carries_nothing}
use Rattle.bounds_reader.specs.Items.{Item, width, turns, depth, cap, entry, param, compare}
use Rattle.bounds_reader.specs.Items.{is_short, is_plain_name}
use Rattle.bounds_reader.specs.Scanning.{◌>>=◌, signed_at, literal_at}

abbrev pub behind_space : List ℕ → List ℕ
behind_space line = drop (prefix_len is_white line) line

abbrev pub is_empty : List ℕ → Bool
is_empty cs = length cs == 0

-- plain bytes as far as they go, and the rest
abbrev pub plain_in : List ℕ → List ℕ × List ℕ
plain_in line = (take (prefix_len is_plain line) line, drop (prefix_len is_plain line) line)

-- the plain word that a line begins with, and the rest
unfoldable pub plain_at : List ℕ → Option (List ℕ × List ℕ)
plain_at line =
    let w = plain_in (behind_space line) in
    if is_empty w.0 || not (ends_word w.1) then None else Some w

-- the text literal that a line begins with, and the rest
unfoldable pub literal_word_at : List ℕ → Option (List ℕ × List ℕ)
literal_word_at line = do
  w ← literal_at (behind_space line)
  if ends_word w.1 then Some w else None

-- what stands behind the word
unfoldable pub behind_word : List ℕ → List ℕ → Option (List ℕ)
behind_word word line = do
  w ← plain_at line
  if same_bytes w.0 word then Some w.1 else None

unfoldable pub number_of : List ℕ → Option ℤ
number_of word = do
  z ← signed_at word
  if is_empty z.1 && is_short z.0 then Some z.0 else None

unfoldable pub number_at : List ℕ → Option (ℤ × List ℕ)
number_at line = do
  w ← plain_at line
  z ← number_of w.0
  Some (z, w.1)

-- what stands behind two dots
abbrev pub behind_dots : List ℕ → Option (List ℕ)
behind_dots [] = None
behind_dots (c ∷ []) = None
behind_dots (c ∷ d ∷ rest) = if c == 46 && d == 46 then Some rest else None

unfoldable pub span_of : List ℕ → Option (ℤ × ℤ)
span_of word = do
  low ← signed_at word
  rest ← behind_dots low.1
  high ← number_of rest
  if is_short low.0 then Some (low.0, high) else None

unfoldable pub span_at : List ℕ → Option (ℤ × ℤ × List ℕ)
span_at line = do
  w ← plain_at line
  s ← span_of w.0
  Some (s.0, s.1, w.1)

unfoldable pub name_at : List ℕ → Option (List ℕ × List ℕ)
name_at line = do
  w ← plain_at line
  if is_plain_name w.0 then Some w else None

-- the value, if nothing is left of the line
abbrev pub at_end : {A : Type 0} → A → List ℕ → Option A
at_end x rest = if carries_nothing rest then Some x else None

unfoldable pub number_line : List ℕ → List ℕ → Option ℤ
number_line word line = do
  rest ← behind_word word line
  z ← number_at rest
  at_end z.0 z.1

unfoldable pub entry_line : List ℕ → Option (List ℕ)
entry_line line = do
  rest ← behind_word (codes "entry") line
  x ← name_at rest
  at_end x.0 x.1

unfoldable pub int_form : List ℕ → Option Form
int_form line = do
  s ← span_at line
  at_end (int s.0 s.1) s.2

unfoldable pub list_form : List ℕ → Option Form
list_form line = do
  lengths ← span_at line
  rest ← behind_word (codes "of") lengths.2
  numbers ← span_at rest
  at_end (list lengths.0 lengths.1 numbers.0 numbers.1) numbers.2

unfoldable pub text_form : List ℕ → Option Form
text_form line = do
  lengths ← span_at line
  rest ← behind_word (codes "of") lengths.2
  alphabet ← literal_word_at rest
  at_end (text lengths.0 lengths.1 alphabet.0) alphabet.1

-- the form whose first word was read
abbrev pub form_behind : List ℕ → List ℕ → Option Form
form_behind word rest =
    if same_bytes word (codes "int") then int_form rest
    else if same_bytes word (codes "bool") then at_end bool rest
    else if same_bytes word (codes "list") then list_form rest
    else if same_bytes word (codes "text") then text_form rest
    else None

unfoldable pub form_at : List ℕ → Option Form
form_at line = do
  w ← plain_at line
  form_behind w.0 w.1

-- the name of a parameter, and what stands behind it
unfoldable pub param_name : List ℕ → Option (List ℕ × List ℕ)
param_name line = do
  rest ← behind_word (codes "param") line
  name_at rest

unfoldable pub param_line : List ℕ → Option (List ℕ × Form)
param_line line = do
  x ← param_name line
  f ← form_at x.1
  Some (x.0, f)

-- how many printed values are compared
unfoldable pub compare_line : List ℕ → Option ℤ
compare_line line = do
  rest ← behind_word (codes "compare") line
  number_line (codes "printed") rest

-- what is compared, or else a parameter
abbrev pub compare_or_param : Option ℤ → List ℕ → Option Item
compare_or_param (Some z) line = Some (compare z)
compare_or_param None line = option_map (λ x. param x.0 x.1) (param_line line)

-- the item that the line spells at the place
unfoldable pub item_at : Place → List ℕ → Option Item
item_at place.Width line = option_map width (number_line (codes "width") line)
item_at place.Turns line = option_map turns (number_line (codes "turns") line)
item_at place.Depth line = option_map depth (number_line (codes "depth") line)
item_at place.Cap line = option_map cap (number_line (codes "cap") line)
item_at place.Entry line = option_map entry (entry_line line)
item_at place.Param line = compare_or_param (compare_line line) line
item_at place.End line = None
