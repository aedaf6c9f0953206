-- Values of the types that have items, and of the types of these, at given limits.
use Rattle.std.specs.Prelude.{◌≡◌, ◌<◌, ℕ, List, ◌++◌, length, replicate, refl}
use Rattle.std.proofs.Common.{ap, sym, ◌∙◌, arith}
use Rattle.mpy_tree.specs.declared.limits.Limits.{Limits}
use Rattle.mpy_tree.specs.declared.typing.Ty.TheVariants as ty
use Rattle.bit_words.specs.Logic.{OwnsAll}
use Rattle.bit_words.specs.Later.{owns_first, owns_second}
use Rattle.bit_lists.specs.Lists.{IsListIn}
use Rattle.sym_values.specs.declared.value.SymValue.{SymValue}
use Rattle.sym_values.specs.declared.value.SymValue.TheVariants as sym_value
use Rattle.sym_values.specs.Forms.{bits_of, form_for, form_of, IntForm, joined, lengths}
use Rattle.list_values.specs.Sequences.{IsSequenceIn, IsWordFor, item_form, item_width, items_of}
use Rattle.list_values.specs.Sequences.{MayBeIn}
use Rattle.list_values.specs.Parts.{alike_first, alike_many, words_apart}

module _ {S B : Type 0} {owns : S → B → Type 0} where
  parts : {s : S} (len : List B) (items : List (List B)) (n w : ℕ)
      → OwnsAll owns s (len ++ joined items) → length len ≡ 5 → lengths items ≡ replicate n w
      → 0 < n → IsListIn owns s (item_width items) (length items) len items
  parts {s} len items n w h digits widths some =
      let many = alike_many n w items widths in
      let first = alike_first n w items widths some in
      let each : lengths items ≡ replicate (length items) (item_width items) =
      widths ∙ ap (λ (k : ℕ). replicate k w) (sym many)
      ∙ ap (replicate (length items)) (sym first) in
      record {
        length_of = record { owned = owns_first len (joined items) h; width = digits };
        items_of = words_apart items (owns_second len (joined items) h) each;
        many = refl;
      }

  -- values of the two types
  pub list_sequence : {s : S} (l : Limits) (x : SymValue B) → OwnsAll owns s (bits_of x)
      → form_of x ≡ form_for l ty.List → IsSequenceIn owns s x
  list_sequence l (sym_value.Int word) h e = absurd cc
  list_sequence l (sym_value.Bool bit) h e = absurd cc
  list_sequence l (sym_value.List len items) h e =
      let digits : length len ≡ 5 = cc in
      let widths : lengths items ≡ replicate l.cap l.width = cc in
      let range = l.cap_range in
      let many = alike_many l.cap l.width items widths in
      record {
        sized = tt;
        parts = parts len items l.cap l.width h digits widths (omega arith);
        some = omega arith;
        few = omega arith;
      }
  list_sequence l (sym_value.Text len items) h e = absurd cc

  pub text_sequence : {s : S} (l : Limits) (x : SymValue B) → OwnsAll owns s (bits_of x)
      → form_of x ≡ form_for l ty.Text → IsSequenceIn owns s x
  text_sequence l (sym_value.Int word) h e = absurd cc
  text_sequence l (sym_value.Bool bit) h e = absurd cc
  text_sequence l (sym_value.List len items) h e = absurd cc
  text_sequence l (sym_value.Text len items) h e =
      let digits : length len ≡ 5 = cc in
      let widths : lengths items ≡ replicate l.cap 7 = cc in
      let range = l.cap_range in
      let many = alike_many l.cap 7 items widths in
      record {
        sized = tt;
        parts = parts len items l.cap 7 h digits widths (omega arith);
        some = omega arith;
        few = omega arith;
      }

-- they have room for as many items as the limits say
pub list_room : {B : Type 0} (l : Limits) (x : SymValue B) → form_of x ≡ form_for l ty.List
    → l.cap ≡ length (items_of x)
list_room l (sym_value.Int word) e = absurd cc
list_room l (sym_value.Bool bit) e = absurd cc
list_room l (sym_value.List len items) e =
    let widths : lengths items ≡ replicate l.cap l.width = cc in
    sym (alike_many l.cap l.width items widths)
list_room l (sym_value.Text len items) e = absurd cc

pub text_room : {B : Type 0} (l : Limits) (x : SymValue B) → form_of x ≡ form_for l ty.Text
    → l.cap ≡ length (items_of x)
text_room l (sym_value.Int word) e = absurd cc
text_room l (sym_value.Bool bit) e = absurd cc
text_room l (sym_value.List len items) e = absurd cc
text_room l (sym_value.Text len items) e =
    let widths : lengths items ≡ replicate l.cap 7 = cc in
    sym (alike_many l.cap 7 items widths)

first_number : {B : Type 0} (l : Limits) (len : List B) (items : List (List B))
    → form_of (sym_value.List len items) ≡ form_for l ty.List → item_width items ≡ l.width
first_number l len items e =
    let widths : lengths items ≡ replicate l.cap l.width = cc in
    let range = l.cap_range in
    alike_first l.cap l.width items widths (omega arith)

-- their items have some bits
pub list_wide : {B : Type 0} (l : Limits) (x : SymValue B) → form_of x ≡ form_for l ty.List
    → 0 < item_width (items_of x)
list_wide l (sym_value.Int word) e = absurd cc
list_wide l (sym_value.Bool bit) e = absurd cc
list_wide l (sym_value.List len items) e =
    let range = l.width_range in
    let first = first_number l len items e in
    omega arith
list_wide l (sym_value.Text len items) e = absurd cc

pub text_wide : {B : Type 0} (l : Limits) (x : SymValue B) → form_of x ≡ form_for l ty.Text
    → 0 < item_width (items_of x)
text_wide l (sym_value.Int word) e = absurd cc
text_wide l (sym_value.Bool bit) e = absurd cc
text_wide l (sym_value.List len items) e = absurd cc
text_wide l (sym_value.Text len items) e =
    let widths : lengths items ≡ replicate l.cap 7 = cc in
    let range = l.cap_range in
    let first = alike_first l.cap 7 items widths (omega arith) in
    omega arith

-- numbers and texts may be in lists and texts
pub number_for_list : {B : Type 0} (l : Limits) (x : SymValue B) (word : List B)
    → form_of x ≡ form_for l ty.List → length word ≡ l.width → IsWordFor word x
number_for_list l (sym_value.Int v) word e h = absurd cc
number_for_list l (sym_value.Bool bit) word e h = absurd cc
number_for_list l (sym_value.List len items) word e h = h ∙ sym (first_number l len items e)
number_for_list l (sym_value.Text len items) word e h = absurd cc

pub number_in_list : {B : Type 0} (l : Limits) (x y : SymValue B) → form_of x ≡ form_for l ty.List
    → form_of y ≡ form_for l ty.Int → MayBeIn y x
number_in_list l x (sym_value.Int word) e h = number_for_list l x word e cc
number_in_list l x (sym_value.Bool bit) e h = absurd cc
number_in_list l x (sym_value.List len items) e h = absurd cc
number_in_list l x (sym_value.Text len items) e h = absurd cc

pub text_in_text : {B : Type 0} (l : Limits) (x y : SymValue B) → form_of x ≡ form_for l ty.Text
    → form_of y ≡ form_for l ty.Text → MayBeIn y x
text_in_text l (sym_value.Int word) y e h = absurd cc
text_in_text l (sym_value.Bool bit) y e h = absurd cc
text_in_text l (sym_value.List len items) y e h = absurd cc
text_in_text l (sym_value.Text len items) (sym_value.Int word) e h = absurd cc
text_in_text l (sym_value.Text len items) (sym_value.Bool bit) e h = absurd cc
text_in_text l (sym_value.Text len items) (sym_value.List m xs) e h = absurd cc
text_in_text l (sym_value.Text len items) (sym_value.Text m xs) e h = h ∙ sym e

-- the form of what stands at a place
pub list_item_form : {B : Type 0} (l : Limits) (x : SymValue B) → form_of x ≡ form_for l ty.List
    → item_form x ≡ form_for l ty.Int
list_item_form l (sym_value.Int word) e = absurd cc
list_item_form l (sym_value.Bool bit) e = absurd cc
list_item_form l (sym_value.List len items) e = ap IntForm (first_number l len items e)
list_item_form l (sym_value.Text len items) e = absurd cc

pub text_item_form : {B : Type 0} (l : Limits) (x : SymValue B) → form_of x ≡ form_for l ty.Text
    → item_form x ≡ form_for l ty.Text
text_item_form l (sym_value.Int word) e = absurd cc
text_item_form l (sym_value.Bool bit) e = absurd cc
text_item_form l (sym_value.List len items) e = absurd cc
text_item_form l (sym_value.Text len items) e = e
