-- What the code holds of a file, as its lines say it.
use Rattle.std.specs.Prelude.{◌≡◌, ℕ, ◌≤◌, ℤ, pos, nat_abs, Bool, true, false, List, [], ◌∷◌, ◌++◌}
use Rattle.std.specs.Prelude.{map, Option, Some, None, option_map}
use Rattle.bounds_reader.specs.declared.place.Place.{Place}
use Rattle.bounds_reader.specs.declared.place.Place.TheVariants as place
use Rattle.bounds_reader.specs.declared.items.Form.{Form as ReadForm}
use Rattle.bounds_reader.specs.declared.items.Form.TheVariants as form
use Rattle.bounds_reader.specs.declared.items.Named.{Named}
use Rattle.bounds_reader.specs.declared.items.Item.{Item as ReadItem}
use Rattle.bounds_reader.specs.declared.items.Item.TheVariants as item
use Rattle.bounds_reader.specs.declared.file.File.{File}
use Rattle.bounds_reader.specs.declared.file.NumberLine.{NumberLine}
use Rattle.bounds_reader.specs.declared.file.ParamLine.{ParamLine as ReadParamLine}
use Rattle.bounds_reader.specs.Forms.{Form, int, bool, list, text}
use Rattle.bounds_reader.specs.Items.{Item, width, turns, depth, cap, entry, param, compare}
use Rattle.bounds_reader.specs.declared.bounds_error.BoundsError.{BoundsError}
use Rattle.bounds_reader.specs.declared.bounds_error.BoundsError.TheVariants as bounds_error
use Rattle.mpy_tree.specs.declared.refusal.Cause.TheVariants as cause
use Rattle.bounds_reader.specs.Files.{On, on, ParamLine, BoundsFile, SpellItems, items_of}
use Rattle.bounds_reader.specs.Files.{param_items, first_items, place_behind}
use Rattle.bounds_reader.specs.Files.{IsUnexpected, HasSyntaxFault}

abbrev pub form_view : ReadForm → Form
form_view (form.Int low high) = int low high
form_view form.Bool = bool
form_view (form.List least most low high) = list least most low high
form_view (form.Text least most alphabet) = text least most alphabet

abbrev pub named_view : Named → List ℕ × Form
named_view p = (p.name, form_view p.form)

abbrev pub item_view : ReadItem → Item
item_view (item.Width z) = width z
item_view (item.Turns z) = turns z
item_view (item.Depth z) = depth z
item_view (item.Cap z) = cap z
item_view (item.Entry x) = entry x
item_view (item.Param p) = param p.name (form_view p.form)
item_view (item.Compare z) = compare z

abbrev pub param_lines : List ReadParamLine → List (On ParamLine)
param_lines ps =
    map (λ p. on p.line (record { name = p.param.name; form = form_view p.param.form })) ps

abbrev pub number_line : NumberLine → On ℤ
number_line n = on n.line n.number

abbrev pub file_view : File → BoundsFile
file_view f = record {
  width = number_line f.width;
  turns = number_line f.turns;
  depth = number_line f.depth;
  cap = number_line f.cap;
  entry = on f.entry.line f.entry.name;
  params = param_lines f.params.items;
  compared = option_map number_line f.compared;
}

-- what was said before the place that is due
abbrev pub said : Place → BoundsFile → List (On Item)
said place.Width f = []
said place.Turns f = on f.width.line (width f.width.value) ∷ []
said place.Depth f =
    on f.width.line (width f.width.value) ∷ on f.turns.line (turns f.turns.value) ∷ []
said place.Cap f =
    on f.width.line (width f.width.value) ∷ on f.turns.line (turns f.turns.value)
    ∷ on f.depth.line (depth f.depth.value) ∷ []
said place.Entry f =
    on f.width.line (width f.width.value) ∷ on f.turns.line (turns f.turns.value)
    ∷ on f.depth.line (depth f.depth.value) ∷ on f.cap.line (cap f.cap.value) ∷ []
said place.Param f = first_items f (param_items f.params)
said place.End f = items_of f

abbrev pub is_whole : Place → Bool
is_whole place.Param = true
is_whole place.End = true
is_whole _ = false

abbrev pub seen : File → List (On Item)
seen f = said f.due (file_view f)

-- no parameter comes before the place of parameters, and what is compared stands at the end
abbrev pub AreDue : Place → List ReadParamLine → Option NumberLine → Type 0
AreDue place.Param ps z = z ≡ None
AreDue place.End ps z = Unit {0}
AreDue _ ps z = (ps ≡ []) × (z ≡ None)

abbrev pub HasOrder : File → Type 0
HasOrder f = AreDue f.due f.params.items f.compared

-- the line is passed, and the items on it were taken
pub record IsTaken (old new : File) (n : ℕ) (line : List ℕ) : Type 0 where
  pub items : List (On Item)
  pub spelled : SpellItems old.due n (line ∷ []) items
  pub due : new.due ≡ place_behind old.due items
  pub seen : seen new ≡ seen old ++ items
  pub order : HasOrder new

abbrev pub IsPassed : File → File → ℕ → List ℕ → Bool → Type 0
IsPassed old new n line true = IsTaken old new n line
IsPassed old new n line false = IsUnexpected old.due line

abbrev pub IsNatural : ℤ → Type 0
IsNatural z = pos (nat_abs z) ≡ z

-- lengths that aren't below 0
abbrev pub HasLengths : Form → Type 0
HasLengths (int low high) = Unit {0}
HasLengths bool = Unit {0}
HasLengths (list least most low high) = IsNatural least × IsNatural most
HasLengths (text least most alphabet) = IsNatural least × IsNatural most

abbrev pub HaveLengths : List (On ParamLine) → Type 0
HaveLengths [] = Unit {0}
HaveLengths (p ∷ ps) = HasLengths p.value.form × HaveLengths ps

-- a natural number from the least to the most
pub record IsWithin (low high : ℕ) (z : ℤ) : Type 0 where
  pub value : IsNatural z
  pub least : low ≤ nat_abs z
  pub most : nat_abs z ≤ high

-- where printed values are compared, their number is in its range
abbrev pub MayCompare : Option (On ℤ) → Type 0
MayCompare None = Unit {0}
MayCompare (Some z) = IsWithin 1 8 z.value

-- the limits are in their ranges
pub record AreWithin (f : BoundsFile) : Type 0 where
  pub width : IsWithin 3 16 f.width.value
  pub turns : IsWithin 1 32 f.turns.value
  pub depth : IsWithin 1 8 f.depth.value
  pub cap : IsWithin 1 16 f.cap.value
  pub compared : MayCompare f.compared

-- the lines have a fault of syntax there, or memory lacked
abbrev pub IsMisspelled : List (List ℕ) → BoundsError → Type 0
IsMisspelled ls (bounds_error.Fault c line) = (c ≡ cause.Syntax) × HasSyntaxFault ls line
IsMisspelled ls bounds_error.NoMemory = Unit {0}
