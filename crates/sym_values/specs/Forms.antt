-- Of which bits a value is made, and how many there are of them.
use Rattle.std.specs.Prelude.{ℕ, List, [], ◌∷◌, ◌++◌, length, map, replicate, ⊤}
use Rattle.mpy_tree.specs.declared.limits.Limits.{Limits}
use Rattle.mpy_tree.specs.declared.typing.Ty.{Ty}
use Rattle.mpy_tree.specs.declared.typing.Ty.TheVariants as ty
use Rattle.sym_values.specs.declared.value.SymValue.{SymValue}
use Rattle.sym_values.specs.declared.value.SymValue.TheVariants as sym

-- the bits of several things, each of which has the bits that `f` says
abbrev pub gathered : {A B : Type 0} → (A → List B) → List A → List B
gathered f [] = []
gathered f (x ∷ xs) = f x ++ gathered f xs

-- lists end to end
abbrev pub joined : {B : Type 0} → List (List B) → List B
joined = gathered (λ w. w)

-- the bits of a value
abbrev pub bits_of : {B : Type 0} → SymValue B → List B
bits_of (sym.Int w) = w
bits_of (sym.Bool b) = b ∷ []
bits_of (sym.List len items) = len ++ joined items
bits_of (sym.Text len items) = len ++ joined items

-- the bits of several values
abbrev pub values_bits : {B : Type 0} → List (SymValue B) → List B
values_bits = gathered bits_of

-- the type of a value and the lengths of its words
pub data Form : Type 0 where
  IntForm : (width : ℕ) → Form
  BoolForm : Form
  ListForm : (len : ℕ) (items : List ℕ) → Form
  TextForm : (len : ℕ) (items : List ℕ) → Form

abbrev pub lengths : {A : Type 0} → List (List A) → List ℕ
lengths = map length

abbrev pub form_of : {B : Type 0} → SymValue B → Form
form_of (sym.Int w) = IntForm (length w)
form_of (sym.Bool b) = BoolForm
form_of (sym.List len items) = ListForm (length len) (lengths items)
form_of (sym.Text len items) = TextForm (length len) (lengths items)

-- whether a value is a list or a text
abbrev pub HasLength : {B : Type 0} → SymValue B → Type 0
HasLength (sym.List len items) = ⊤
HasLength (sym.Text len items) = ⊤
HasLength _ = ⊥

-- the forms of several values
abbrev pub forms_of : {B : Type 0} → List (SymValue B) → List Form
forms_of = map form_of

-- the form of the values of a type: numbers have the width, lengths 5 bits and characters 7
abbrev pub form_for : Limits → Ty → Form
form_for l ty.Int = IntForm l.width
form_for l ty.Bool = BoolForm
form_for l ty.List = ListForm 5 (replicate l.cap l.width)
form_for l ty.Text = TextForm 5 (replicate l.cap 7)
