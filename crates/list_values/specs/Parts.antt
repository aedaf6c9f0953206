-- Words of one width, by the bits of all of them and by their lengths.
use Rattle.std.specs.Prelude.{◌≡◌, ◌<◌, ℕ, zero, suc, List, [], ◌∷◌, length, replicate, refl}
use Rattle.std.proofs.Common.{ap, sym, ◌∙◌, arith}
use Rattle.std.proofs.lemmas.List.{length-map, length-replicate}
use Rattle.std.proofs.lemmas.List.Elements.{All-cons, All-head, All-nil, All-tail}
use Rattle.bit_words.specs.Logic.{OwnsAll}
use Rattle.bit_words.specs.Later.{owns_both, owns_first, owns_second}
use Rattle.bit_words.specs.Results.{IsWordIn}
use Rattle.bit_lists.specs.Lists.{AreWordsIn}
use Rattle.sym_values.specs.Forms.{joined, lengths}
use Rattle.list_values.specs.Sequences.{item_width}

-- how many there are, and how long the first is
pub alike_many : {B : Type 0} (n w : ℕ) (items : List (List B)) → lengths items ≡ replicate n w
    → length items ≡ n
alike_many n w items e = sym (length-map items length) ∙ ap length e ∙ length-replicate n w

pub alike_first : {B : Type 0} (n w : ℕ) (items : List (List B)) → lengths items ≡ replicate n w
    → 0 < n → item_width items ≡ w
alike_first zero w items e h = absurd (omega arith)
alike_first (suc n) w [] e h = absurd cc
alike_first (suc n) w (v ∷ items) e h = let head : length v ≡ w = cc in head

module _ {S B : Type 0} {owns : S → B → Type 0} where
  pub words_joined : {s : S} {n : ℕ} (items : List (List B)) → AreWordsIn owns s n items
      → OwnsAll owns s (joined items)
  words_joined {s} [] h = record { each = All-nil (owns s) }
  words_joined {s} {n} (w ∷ items) h =
      let word = All-head (IsWordIn owns s n) w items h.each in
      let rest = All-tail (IsWordIn owns s n) w items h.each in
      owns_both word.owned (words_joined {s = s} {n = n} items (record { each = rest }))

  pub words_widths : {s : S} {n : ℕ} (items : List (List B)) → AreWordsIn owns s n items
      → lengths items ≡ replicate (length items) n
  words_widths [] h = refl
  words_widths {s} {n} (w ∷ items) h =
      let word = All-head (IsWordIn owns s n) w items h.each in
      let rest = All-tail (IsWordIn owns s n) w items h.each in
      let head : length w ≡ n = word.width in
      let tail : lengths items ≡ replicate (length items) n =
      words_widths {s = s} {n = n} items (record { each = rest }) in
      cc

  pub words_apart : {s : S} {n : ℕ} (items : List (List B)) → OwnsAll owns s (joined items)
      → lengths items ≡ replicate (length items) n → AreWordsIn owns s n items
  words_apart {s} {n} [] h e = record { each = All-nil (IsWordIn owns s n) }
  words_apart {s} {n} (w ∷ items) h e =
      let head : length w ≡ n = cc in
      let tail : lengths items ≡ replicate (length items) n = cc in
      let word : IsWordIn owns s n w =
      record { owned = owns_first w (joined items) h; width = head } in
      let rest = words_apart {s = s} {n = n} items (owns_second w (joined items) h) tail in
      record { each = All-cons (IsWordIn owns s n) w items word rest.each }
