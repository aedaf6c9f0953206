-- Words as the items of lists and texts.
use Rattle.std.proofs.Common.{◌≡◌, ℕ, ◌<◌, Bool, List, [], ◌∷◌, length, map, take, refl, sym, ap, ◌∙◌, arith}
use Rattle.std.specs.Prelude.{replicate}
use Rattle.std.proofs.lemmas.List.{take-map}
use Rattle.mpy_tree.specs.declared.value.Value.TheVariants as val
use Rattle.bit_words.specs.Later.{owns_both}
use Rattle.bit_words.specs.Results.{IsWordIn}
use Rattle.bit_words.specs.Words.{int_of, nat_of}
use Rattle.bit_lists.specs.Lists.{AreWordsIn}
use Rattle.sym_values.specs.declared.value.SymValue.{SymValue}
use Rattle.sym_values.specs.declared.value.SymValue.TheVariants as sym_value
use Rattle.sym_values.specs.Forms.{IntForm, lengths, ListForm, TextForm}
use Rattle.sym_values.specs.Reading.{read, sure}
use Rattle.sym_values.specs.Results.{IsValueIn}
use Rattle.list_values.specs.Sequences.{IsSequenceIn, item_form, item_of_kind, item_width, items_of, len_of}
use Rattle.list_values.specs.Parts.{words_joined, words_widths}
use Rattle.list_values.proofs.Meanings.{reads_like}

-- a text of one character
pub one_read : {B : Type 0} (f : B → Bool) (len : List B) (items : List (List B)) (character : List B) → nat_of (map f len) ≡ 1 → 0 < length items → take 1 items ≡ character ∷ []
    → read f (sym_value.Text len items) ≡ sure (val.Text (nat_of (map f character) ∷ []))
one_read f len items character one some front =
    reads_like f (sym_value.Text len items) len items tt (omega arith)
    ∙ ap (λ (ws : List (List Bool)). sure (val.Text (map nat_of ws))) (ap (λ (n : ℕ). take n (map (map f) items)) one ∙ take-map (map f) 1 items ∙ ap (map (map f)) front)

-- how an item of a list or a text reads
pub number_value : {B : Type 0} (x : SymValue B) (len : List B) (items : List (List B)) (w : List Bool) → x ≡ sym_value.List len items → val.Int (int_of w) ≡ item_of_kind x w
number_value (sym_value.Int v) len items w e = refl
number_value (sym_value.Bool b) len items w e = refl
number_value (sym_value.List m xs) len items w e = refl
number_value (sym_value.Text m xs) len items w e = absurd cc

pub character_value : {B : Type 0} (x : SymValue B) (len : List B) (items : List (List B)) (w : List Bool) → x ≡ sym_value.Text len items → val.Text (nat_of w ∷ []) ≡ item_of_kind x w
character_value (sym_value.Int v) len items w e = absurd cc
character_value (sym_value.Bool b) len items w e = absurd cc
character_value (sym_value.List m xs) len items w e = absurd cc
character_value (sym_value.Text m xs) len items w e = refl

number_form : {B : Type 0} (x : SymValue B) (len : List B) (items : List (List B)) → x ≡ sym_value.List len items → IntForm (item_width (items_of x)) ≡ item_form x
number_form (sym_value.Int v) len items e = refl
number_form (sym_value.Bool b) len items e = refl
number_form (sym_value.List m xs) len items e = refl
number_form (sym_value.Text m xs) len items e = absurd cc

character_form : {B : Type 0} (x : SymValue B) (len : List B) (items : List (List B)) (n w : ℕ) → x ≡ sym_value.Text len items → length (len_of x) ≡ 5 → lengths (items_of x) ≡ replicate n w
    → TextForm 5 (replicate n w) ≡ item_form x
character_form (sym_value.Int v) len items n w e h k = absurd cc
character_form (sym_value.Bool b) len items n w e h k = absurd cc
character_form (sym_value.List m xs) len items n w e h k = absurd cc
character_form (sym_value.Text m xs) len items n w e h k = cc

pub room_is : {B : Type 0} (x : SymValue B) (len : List B) (items : List (List B)) → x ≡ sym_value.Text len items → length (items_of x) ≡ length items
room_is x len items e = ap (λ (y : SymValue _). length (items_of y)) e

module _ {S B : Type 0} {owns : S → B → Type 0} where
  pub text_made : {s : S} {n w : ℕ} {len : List B} {items : List (List B)} → IsWordIn owns s 5 len → AreWordsIn owns s w items → length items ≡ n → IsValueIn owns s (TextForm 5 (replicate n w)) (sym_value.Text len items)
  text_made {s} {n} {w} {len} {items} h k many =
      let digits : length len ≡ 5 = h.width in
      let widths : lengths items ≡ replicate n w = words_widths items k ∙ ap (λ (i : ℕ). replicate i w) many in
      record { owned = owns_both h.owned (words_joined items k); form = cc }

  pub list_made : {s : S} {n w : ℕ} {len : List B} {items : List (List B)} → IsWordIn owns s 5 len → AreWordsIn owns s w items → length items ≡ n → IsValueIn owns s (ListForm 5 (replicate n w)) (sym_value.List len items)
  list_made {s} {n} {w} {len} {items} h k many =
      let digits : length len ≡ 5 = h.width in
      let widths : lengths items ≡ replicate n w = words_widths items k ∙ ap (λ (i : ℕ). replicate i w) many in
      record { owned = owns_both h.owned (words_joined items k); form = cc }

  pub number_made : {s : S} {x : SymValue B} {len word : List B} {items : List (List B)} → x ≡ sym_value.List len items → IsWordIn owns s (item_width (items_of x)) word → IsValueIn owns s (item_form x) (sym_value.Int word)
  number_made {s} {x} {len} {word} {items} e h = record { owned = h.owned; form = ap IntForm h.width ∙ number_form x len items e }

  pub character_made : {s : S} {x y : SymValue B} {n w : ℕ} {len : List B} {items : List (List B)} → IsSequenceIn owns s x → x ≡ sym_value.Text len items → n ≡ length (items_of x) → w ≡ item_width (items_of x)
      → IsValueIn owns s (TextForm 5 (replicate n w)) y → IsValueIn owns s (item_form x) y
  character_made {s} {x} {y} {n} {w} {len} {items} h e many width made =
      let widths = words_widths (items_of x) h.parts.items_of ∙ ap (λ (k : ℕ). replicate k (item_width (items_of x))) (sym many) ∙ ap (replicate n) (sym width) in
      record { owned = made.owned; form = made.form ∙ character_form x len items n w e h.parts.length_of.width widths }
