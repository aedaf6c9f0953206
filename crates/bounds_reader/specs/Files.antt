-- Which bounds a text spells, and which texts are refused.
use Rattle.std.specs.Prelude.{◌≡◌, ℕ, ◌+◌, ◌<◌, ℤ, pos, int_le, Bool, true, false, not, ◌&&◌, ◌||◌}
use Rattle.std.specs.Prelude.{List, [], ◌∷◌}
use Rattle.std.specs.Prelude.{◌++◌, length, map, drop, nat_abs, nat_le, Option, Some, None}
use Rattle.std.specs.Prelude.{if◌then◌else◌}
use Rattle.std.specs.Prelude.{Result, Ok, Err}
use Rattle.std.specs.List.{list_any}
use Rattle.mpy_tree.specs.declared.refusal.Cause.{Cause}
use Rattle.mpy_tree.specs.declared.refusal.Cause.TheVariants as cause
use Rattle.mpy_tree.specs.declared.limits.Limits.{Limits}
use Rattle.mpy_tree.specs.NameLengths.{is_long}
use Rattle.mpy_lexer.specs.declared.forms.Form.TheVariants.{Program}
use Rattle.mpy_lexer.specs.Pieces.{parts}
use Rattle.mpy_lexer.specs.PhysicalLines.{byte_order_mark_len, physical_lines, is_foreign}
use Rattle.bounds_reader.specs.declared.place.Place.{Place}
use Rattle.bounds_reader.specs.declared.place.Place.TheVariants as place
use Rattle.bounds_reader.specs.declared.bounds.Bounds.{Bounds}
use Rattle.bounds_reader.specs.declared.bounds_error.BoundsError.{BoundsError}
use Rattle.bounds_reader.specs.declared.bounds_error.BoundsError.TheVariants as bounds_error
use Rattle.bounds_reader.specs.Forms.{Form, form_of}
use Rattle.bounds_reader.specs.Ranges.{is_in_range}
use Rattle.bounds_reader.specs.Words.{carries_nothing}
use Rattle.bounds_reader.specs.Items.{Item, width, turns, depth, cap, entry, param, compare}
use Rattle.bounds_reader.specs.Items.{behind, SpellsItem}

-- the physical lines, behind a byte order mark
abbrev pub text_lines : List ℕ → List (List ℕ)
text_lines bytes = physical_lines (drop (byte_order_mark_len bytes) bytes)

-- outside comments, a byte that no source may have there
abbrev pub has_faulty_byte : List ℕ → Bool
has_faulty_byte line = list_any (λ p. is_foreign p.sort p.bytes) (parts Program 0 0 line)

-- the first line that passes the test, where the first of all has number n
abbrev pub first_line : (List ℕ → Bool) → ℕ → List (List ℕ) → Option ℕ
first_line test n [] = None
first_line test n (l ∷ ls) = if test l then Some n else first_line test (n + 1) ls

abbrev pub byte_fault : List ℕ → Option ℕ
byte_fault bytes = first_line has_faulty_byte 1 (text_lines bytes)

-- what stands on a line
pub record On (A : Type 0) : Type 0 where
  pub line : ℕ
  pub value : A

abbrev pub on : {A : Type 0} → ℕ → A → On A
on line value = record { line = line; value = value }

-- The lines from the n-th on spell these items, the first of which has place p. A line without
-- words spells none.
pub data SpellItems : Place → ℕ → List (List ℕ) → List (On Item) → Type 0 where
  no_lines : (p : Place) (n : ℕ) → SpellItems p n [] []
  no_words : (p : Place) (n : ℕ) (l : List ℕ) (ls : List (List ℕ)) (is : List (On Item))
      → carries_nothing l ≡ true
      → SpellItems p (n + 1) ls is
      → SpellItems p n (l ∷ ls) is
  an_item : (p : Place) (n : ℕ) (l : List ℕ) (ls : List (List ℕ)) (i : Item) (is : List (On Item))
      → SpellsItem p l i
      → SpellItems (behind i) (n + 1) ls is
      → SpellItems p n (l ∷ ls) (on n i ∷ is)

pub record ParamLine : Type 0 where
  pub name : List ℕ
  pub form : Form

-- what the lines of a whole file say
pub record BoundsFile : Type 0 where
  pub width : On ℤ
  pub turns : On ℤ
  pub depth : On ℤ
  pub cap : On ℤ
  pub entry : On (List ℕ)
  pub params : List (On ParamLine)
  pub compared : Option (On ℤ)

abbrev pub param_items : List (On ParamLine) → List (On Item)
param_items ps = map (λ p. on p.line (param p.value.name p.value.form)) ps

abbrev pub compare_items : Option (On ℤ) → List (On Item)
compare_items None = []
compare_items (Some z) = on z.line (compare z.value) ∷ []

-- the first five items of a file, and then others
abbrev pub first_items : BoundsFile → List (On Item) → List (On Item)
first_items f others =
    on f.width.line (width f.width.value) ∷ on f.turns.line (turns f.turns.value)
    ∷ on f.depth.line (depth f.depth.value) ∷ on f.cap.line (cap f.cap.value)
    ∷ on f.entry.line (entry f.entry.value) ∷ others

abbrev pub items_of : BoundsFile → List (On Item)
items_of f = first_items f (param_items f.params ++ compare_items f.compared)

-- the text spells the file
abbrev pub SpellsFile : List ℕ → BoundsFile → Type 0
SpellsFile bytes f = SpellItems place.Width 1 (text_lines bytes) (items_of f)

-- the first parameter behind the fourth, or with a long name, where so many stand before
abbrev pub param_limit_fault : ℕ → List (On ParamLine) → Option ℕ
param_limit_fault before [] = None
param_limit_fault before (p ∷ ps) =
    if nat_le 4 before || is_long p.value.name then Some p.line
    else param_limit_fault (before + 1) ps

-- the first line with a long name, or with a fifth parameter
abbrev pub limit_fault : BoundsFile → Option ℕ
limit_fault f = if is_long f.entry.value then Some f.entry.line else param_limit_fault 0 f.params

-- a number that isn't from the least to the most
abbrev pub is_outside : ℕ → ℕ → ℤ → Bool
is_outside least most z = not (int_le (pos least) z && int_le z (pos most))

abbrev pub param_range_fault : ℕ → ℕ → List (On ParamLine) → Option ℕ
param_range_fault w c [] = None
param_range_fault w c (p ∷ ps) =
    if is_in_range w c p.value.form then param_range_fault w c ps else Some p.line

abbrev pub compare_range_fault : Option (On ℤ) → Option ℕ
compare_range_fault None = None
compare_range_fault (Some z) = if is_outside 1 8 z.value then Some z.line else None

-- the first line, where there is one, or else the second
abbrev pub or_line : Option ℕ → Option ℕ → Option ℕ
or_line None m = m
or_line (Some n) m = Some n

-- the first line with a number out of its range
abbrev pub range_fault : BoundsFile → Option ℕ
range_fault f =
    if is_outside 3 16 f.width.value then Some f.width.line
    else if is_outside 1 32 f.turns.value then Some f.turns.line
    else if is_outside 1 8 f.depth.value then Some f.depth.line
    else if is_outside 1 16 f.cap.value then Some f.cap.line
    else
    or_line (param_range_fault (nat_abs f.width.value) (nat_abs f.cap.value) f.params)
    (compare_range_fault f.compared)

-- how many printed values are kept: none, where no line says that they are compared
abbrev pub SayPrints : Option (On ℤ) → ℕ → Type 0
SayPrints None n = n ≡ 0
SayPrints (Some z) n = z.value ≡ pos n

-- the limits that the lines say
pub record SayLimits (f : BoundsFile) (l : Limits) : Type 0 where
  pub width : f.width.value ≡ pos l.width
  pub turns : f.turns.value ≡ pos l.turns
  pub depth : f.depth.value ≡ pos l.depth
  pub cap : f.cap.value ≡ pos l.cap
  pub prints : SayPrints f.compared l.prints

-- the file says these bounds; the names of parameters are for its reader alone
pub record Says (f : BoundsFile) (b : Bounds) : Type 0 where
  pub limits : SayLimits f b.limits
  pub entry : f.entry.value ≡ b.entry
  pub entry_line : f.entry.line ≡ b.entry_line
  pub params : map (λ p. p.value.form) f.params ≡ map form_of b.params

-- the text spells the file, and nothing refuses it
pub record IsRead (bytes : List ℕ) (f : BoundsFile) : Type 0 where
  pub no_byte_fault : byte_fault bytes ≡ None
  pub spelled : SpellsFile bytes f
  pub no_limit_fault : limit_fault f ≡ None
  pub no_range_fault : range_fault f ≡ None

-- the text spells the bounds
pub record IsBounds (bytes : List ℕ) (b : Bounds) : Type 0 where
  pub file : BoundsFile
  pub read : IsRead bytes file
  pub says : Says file b

-- the place of the next item
abbrev pub place_behind : Place → List (On Item) → Place
place_behind p [] = p
place_behind p (i ∷ is) = place_behind (behind i.value) is

-- a line with words that spell no item of the place
pub record IsUnexpected (p : Place) (line : List ℕ) : Type 0 where
  pub words : carries_nothing line ≡ false
  pub no_item : (i : Item) → SpellsItem p line i → ⊥

-- the first line that isn't the one that is expected
pub data HasSyntaxFault (ls : List (List ℕ)) : ℕ → Type 0 where
  unexpected : (before : List (List ℕ)) (l : List ℕ) (rest : List (List ℕ)) (is : List (On Item))
      → ls ≡ before ++ l ∷ rest
      → SpellItems place.Width 1 before is
      → IsUnexpected (place_behind place.Width is) l
      → HasSyntaxFault ls (length before + 1)
  missing : (is : List (On Item))
      → SpellItems place.Width 1 ls is
      → length is < 5
      → HasSyntaxFault ls (length ls + 1)

-- The first cause for which a text is refused. Each step goes over the whole text before the next.
pub data IsRefused (bytes : List ℕ) : Cause → ℕ → Type 0 where
  by_byte : (line : ℕ) → byte_fault bytes ≡ Some line → IsRefused bytes cause.Byte line
  by_syntax : (line : ℕ)
      → byte_fault bytes ≡ None
      → HasSyntaxFault (text_lines bytes) line
      → IsRefused bytes cause.Syntax line
  by_limit : (f : BoundsFile) (line : ℕ)
      → byte_fault bytes ≡ None
      → SpellsFile bytes f
      → limit_fault f ≡ Some line
      → IsRefused bytes cause.Limit line
  by_range : (f : BoundsFile) (line : ℕ)
      → byte_fault bytes ≡ None
      → SpellsFile bytes f
      → limit_fault f ≡ None
      → range_fault f ≡ Some line
      → IsRefused bytes cause.BoundRange line

-- a cause and line are answered where they are the first; want of memory may be answered for any
-- text
abbrev pub IsAnswered : List ℕ → BoundsError → Type 0
IsAnswered bytes (bounds_error.Fault c line) = IsRefused bytes c line
IsAnswered bytes bounds_error.NoMemory = Unit {0}

-- the bounds are given, unless memory lacked
abbrev pub IsGiven : Bounds → Result Bounds BoundsError → Type 0
IsGiven b (Ok a) = a ≡ b
IsGiven b (Err (bounds_error.Fault c line)) = ⊥
IsGiven b (Err bounds_error.NoMemory) = Unit {0}

-- the text is refused so, unless memory lacked
abbrev pub IsRefusal : Cause → ℕ → Result Bounds BoundsError → Type 0
IsRefusal c line (Ok b) = ⊥
IsRefusal c line (Err (bounds_error.Fault d m)) = (d ≡ c) × (m ≡ line)
IsRefusal c line (Err bounds_error.NoMemory) = Unit {0}
