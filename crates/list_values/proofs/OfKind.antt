-- Lists and texts by their parts, and values of their kind.
use Rattle.std.proofs.Common.{◌≡◌, ℕ, Bool, List, [], ◌∷◌, length, refl, sym, ap, ◌∙◌, subst, arith, get_or}
use Rattle.std.specs.Prelude.{replicate}
use Rattle.std.proofs.lemmas.List.{length-map}
use Rattle.bit_words.specs.Logic.{Extends, OwnsAll}
use Rattle.bit_words.specs.Later.{owns_both, owns_first, owns_second}
use Rattle.bit_lists.specs.Lists.{IsListIn}
use Rattle.bit_lists.proofs.Ends.{list_kept}
use Rattle.bit_lists.proofs.Held.{words_as}
use Rattle.sym_values.specs.declared.value.SymValue.{SymValue}
use Rattle.sym_values.specs.declared.value.SymValue.TheVariants as sym_value
use Rattle.sym_values.specs.Forms.{Form, bits_of, form_of, HasLength, joined, lengths, ListForm, TextForm}
use Rattle.sym_values.specs.Results.{IsOutcomeIn}
use Rattle.list_values.specs.Sequences.{IsSequenceIn, IsWordFor, item_width, items_of, len_of, of_kind}
use Rattle.list_values.specs.Parts.{words_apart, words_joined, words_widths}

-- what a form says of the length and of the items
abbrev digits_in : Form → ℕ
digits_in (ListForm n ns) = n
digits_in (TextForm n ns) = n
digits_in _ = 0

abbrev widths_in : Form → List ℕ
widths_in (ListForm n ns) = ns
widths_in (TextForm n ns) = ns
widths_in _ = []

digits_are : {B : Type 0} (x : SymValue B) → length (len_of x) ≡ digits_in (form_of x)
digits_are (sym_value.Int w) = refl
digits_are (sym_value.Bool b) = refl
digits_are (sym_value.List len items) = refl
digits_are (sym_value.Text len items) = refl

widths_are : {B : Type 0} (x : SymValue B) → lengths (items_of x) ≡ widths_in (form_of x)
widths_are (sym_value.Int w) = refl
widths_are (sym_value.Bool b) = refl
widths_are (sym_value.List len items) = refl
widths_are (sym_value.Text len items) = refl

first_width : {B : Type 0} (items : List (List B)) → item_width items ≡ get_or (lengths items) 0 0
first_width [] = refl
first_width (w ∷ items) = refl

-- values of one form have parts alike
alike_widths : {A B : Type 0} (x : SymValue A) (y : SymValue B) → form_of y ≡ form_of x → lengths (items_of y) ≡ lengths (items_of x)
alike_widths x y e = widths_are y ∙ ap widths_in e ∙ sym (widths_are x)

pub alike_many : {A B : Type 0} (x : SymValue A) (y : SymValue B) → form_of y ≡ form_of x → length (items_of y) ≡ length (items_of x)
alike_many x y e = sym (length-map (items_of y) length) ∙ ap length (alike_widths x y e) ∙ length-map (items_of x) length

alike_items : {A B : Type 0} (x : SymValue A) (y : SymValue B) → form_of y ≡ form_of x → item_width (items_of y) ≡ item_width (items_of x)
alike_items x y e = first_width (items_of y) ∙ ap (λ (ns : List ℕ). get_or ns 0 0) (alike_widths x y e) ∙ sym (first_width (items_of x))

module _ {S B : Type 0} {owns : S → B → Type 0} where
  -- the parts of a value of another's form
  pub parts_alike : {s : S} (x y : SymValue B) → IsSequenceIn owns s y → form_of y ≡ form_of x → IsListIn owns s (item_width (items_of x)) (length (items_of x)) (len_of y) (items_of y)
  parts_alike x y h e = record { length_of = h.parts.length_of; items_of = words_as (alike_items x y e) h.parts.items_of; many = alike_many x y e }

  -- values of a sequence's form are one
  parts_owned : {s : S} (x : SymValue B) → HasLength x → OwnsAll owns s (bits_of x) → OwnsAll owns s (len_of x) × OwnsAll owns s (joined (items_of x))
  parts_owned (sym_value.Int w) sized h = absurd sized
  parts_owned (sym_value.Bool b) sized h = absurd sized
  parts_owned (sym_value.List len items) sized h = (owns_first len (joined items) h, owns_second len (joined items) h)
  parts_owned (sym_value.Text len items) sized h = (owns_first len (joined items) h, owns_second len (joined items) h)

  pub sequence_alike : {s : S} (x y : SymValue B) → IsSequenceIn owns s y → HasLength x → OwnsAll owns s (bits_of x) → form_of x ≡ form_of y → IsSequenceIn owns s x
  sequence_alike x y h sized owned e =
      let bits = parts_owned x sized owned in
      let many = alike_many y x e in
      let some = h.some in
      let few = h.few in
      let digits : length (len_of x) ≡ 5 = digits_are x ∙ ap digits_in e ∙ sym (digits_are y) ∙ h.parts.length_of.width in
      let widths : lengths (items_of x) ≡ replicate (length (items_of x)) (item_width (items_of x)) =
      alike_widths y x e ∙ words_widths (items_of y) h.parts.items_of ∙ ap (λ (n : ℕ). replicate n (item_width (items_of y))) (sym many) ∙ ap (replicate (length (items_of x))) (sym (alike_items y x e)) in
      record {
        sized = sized;
        parts = record { length_of = record { owned = bits.0; width = digits }; items_of = words_apart (items_of x) bits.1 widths; many = refl };
        some = omega arith;
        few = omega arith;
      }

  -- equal parts
  pub parts_are : {s : S} {n n' k k' : ℕ} {len len' : List B} {items items' : List (List B)} → n' ≡ n → k' ≡ k → len' ≡ len → items' ≡ items → IsListIn owns s n k len items → IsListIn owns s n' k' len' items'
  parts_are {s} {n} {n'} {k} {k'} {len} {len'} {items} {items'} width many e f h =
      subst (λ (i : ℕ). IsListIn owns s i k' len' items') (sym width)
      (subst (λ (i : ℕ). IsListIn owns s n i len' items') (sym many)
      (subst (λ (v : List B). IsListIn owns s n k v items') (sym e)
      (subst (λ (v : List (List B)). IsListIn owns s n k len v) (sym f) h)))

  like_owned : {s : S} (x : SymValue B) (len : List B) (items : List (List B)) → OwnsAll owns s len → OwnsAll owns s (joined items) → OwnsAll owns s (bits_of (of_kind x len items))
  like_owned (sym_value.Int w) len items h k = owns_both h k
  like_owned (sym_value.Bool b) len items h k = owns_both h k
  like_owned (sym_value.List m xs) len items h k = owns_both h k
  like_owned (sym_value.Text m xs) len items h k = owns_both h k

like_form : {B : Type 0} (x : SymValue B) (len : List B) (items : List (List B)) → HasLength x → length len ≡ length (len_of x) → lengths items ≡ lengths (items_of x) → form_of (of_kind x len items) ≡ form_of x
like_form (sym_value.Int w) len items h e f = absurd h
like_form (sym_value.Bool b) len items h e f = absurd h
like_form (sym_value.List m xs) len items h e f = cc
like_form (sym_value.Text m xs) len items h e f = cc

module _ {S B : Type 0} {owns : S → B → Type 0} where
  -- a value of a kind that has the parts of a list
  pub like_made : {s t : S} {x value : SymValue B} {n k : ℕ} {len : List B} {items : List (List B)} {fault : B} → IsSequenceIn owns s x → n ≡ item_width (items_of x) → k ≡ length (items_of x)
      → IsListIn owns t n k len items → owns t fault → value ≡ of_kind x len items → IsOutcomeIn owns t (form_of x) (record { value = value; fault = fault })
  like_made {s} {t} {x} {value} {n} {k} {len} {items} {fault} h width many parts o e =
      let widths : lengths items ≡ lengths (items_of x) =
      words_widths items parts.items_of ∙ ap (λ (i : ℕ). replicate i n) (parts.many ∙ many) ∙ ap (replicate (length (items_of x))) width ∙ sym (words_widths (items_of x) h.parts.items_of) in
      record {
        owned = subst (λ (v : SymValue B). OwnsAll owns t (bits_of v)) (sym e) (like_owned x len items parts.length_of.owned (words_joined items parts.items_of));
        owned_fault = o;
        form = ap form_of e ∙ like_form x len items h.sized (parts.length_of.width ∙ sym h.parts.length_of.width) widths;
      }

-- how long the items of a list with words of that length are
pub word_width : {B : Type 0} (x : SymValue B) (word : List B) → IsWordFor word x → length word ≡ item_width (items_of x)
word_width (sym_value.Int w) word e = absurd e
word_width (sym_value.Bool b) word e = absurd e
word_width (sym_value.List len items) word e = e
word_width (sym_value.Text len items) word e = absurd e

module _ {S B : Type 0} {owns : S → B → Type 0} {reads : S → List Bool → B → Bool} {count : S → ℕ} where
  pub sequence_kept : {s t : S} {x : SymValue B} → Extends owns reads count s t → IsSequenceIn owns s x → IsSequenceIn owns t x
  sequence_kept p h = record { sized = h.sized; parts = list_kept p h.parts; some = h.some; few = h.few }
