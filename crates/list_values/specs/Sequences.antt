-- Lists and texts as bits, by their parts.
use Rattle.std.specs.Prelude.{◌≡◌, ◌<◌, ◌≤◌, ℕ, Bool, List, [], ◌∷◌, length, slice_index_or}
use Rattle.mpy_tree.specs.declared.value.Value.{Value}
use Rattle.mpy_tree.specs.declared.value.Value.TheVariants as val
use Rattle.bit_words.specs.Words.{int_of, nat_of}
use Rattle.sym_values.specs.declared.value.SymValue.{SymValue}
use Rattle.sym_values.specs.declared.value.SymValue.TheVariants as sym
use Rattle.sym_values.specs.Forms.{Form, form_of, HasLength, IntForm}
use Rattle.bit_lists.specs.Lists.{IsListIn}

-- the length and the items of a list or a text
abbrev pub len_of : {B : Type 0} → SymValue B → List B
len_of (sym.List len items) = len
len_of (sym.Text len items) = len
len_of _ = []

abbrev pub items_of : {B : Type 0} → SymValue B → List (List B)
items_of (sym.List len items) = items
items_of (sym.Text len items) = items
items_of _ = []

-- how many bits an item has
abbrev pub item_width : {B : Type 0} → List (List B) → ℕ
item_width items = length (slice_index_or items 0 [])

-- a value of the kind of another, with this length and these items
abbrev pub of_kind : {B C : Type 0} → SymValue B → List C → List (List C) → SymValue C
of_kind (sym.Text m xs) len items = sym.Text len items
of_kind _ len items = sym.List len items

-- a list or a text with room for 1 to 16 items of one width, which belongs to a state
pub record IsSequenceIn {S B : Type 0} (owns : S → B → Type 0) (s : S) (x : SymValue B)
    : Type 0 where
  pub sized : HasLength x
  pub parts : IsListIn owns s (item_width (items_of x)) (length (items_of x)) (len_of x)
      (items_of x)
  pub some : 0 < length (items_of x)
  pub few : length (items_of x) ≤ 16

-- the form of an item as a value: a number of a list, a text of one character of a text
abbrev pub item_form : {B : Type 0} → SymValue B → Form
item_form (sym.Text len items) = form_of (sym.Text len items)
item_form x = IntForm (item_width (items_of x))

-- a word as long as the numbers of a list
abbrev pub IsWordFor : {B : Type 0} → List B → SymValue B → Type 0
IsWordFor word (sym.List len items) = length word ≡ item_width items
IsWordFor word _ = ⊥

-- whether a value may be among the items of a list, or stand in a text, by its form
abbrev pub MayBeIn : {B : Type 0} → SymValue B → SymValue B → Type 0
MayBeIn (sym.Int word) a = IsWordFor word a
MayBeIn (sym.Text m xs) (sym.Text len items) =
    form_of (sym.Text m xs) ≡ form_of (sym.Text len items)
MayBeIn _ _ = ⊥

-- a word as an item: a number, or the text of one character
abbrev pub item_of_kind : {B : Type 0} → SymValue B → List Bool → Value
item_of_kind (sym.Text len items) word = val.Text (nat_of word ∷ [])
item_of_kind _ word = val.Int (int_of word)
