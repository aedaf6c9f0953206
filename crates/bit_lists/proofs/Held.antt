-- What calls in turn leave of bits, words and lists of words.
use Rattle.std.proofs.Common.{◌≡◌, ℕ, zero, suc, Bool, List, [], ◌∷◌, ◌++◌, All, Some, map, length, refl, sym, ap, ◌∙◌, subst, arith, get_or, ◌<◌}
use Rattle.std.specs.Prelude.{slice_get}
use Rattle.std.proofs.lemmas.List.Elements.{All-cons, All-head, All-tail, All-nil, All-push, All-get_or}
use Rattle.std.proofs.lemmas.List.{length-map, get_or-map}
use Rattle.bit_words.specs.Logic.{Extends, OwnsAll, extends_trans, extends_keeps}
use Rattle.bit_words.specs.Later.{owned_later, read_later}
use Rattle.bit_words.proofs.Kept.{owns_none, owns_push, owns_read, owns_kept}
use Rattle.bit_words.specs.Results.{IsWordIn}
use Rattle.bit_lists.specs.Lists.{AreWordsIn}

all_read : {X : Type 0} (P : X → Type 0) (w : List X) (i : ℕ) (b : X) → All P w → slice_get w i ≡ Some b → P b
all_read P [] i b h e = cc
all_read P (x ∷ w) zero b h e = let same : x ≡ b = cc in subst P same (All-head P x w h)
all_read P (x ∷ w) (suc i) b h e = all_read P w i b (All-tail P x w h) e

all_turned : {X : Type 0} (P Q : X → Type 0) → ((x : X) → P x → Q x) → (w : List X) → All P w → All Q w
all_turned P Q f [] h = All-nil Q
all_turned P Q f (x ∷ w) h = All-cons Q x w (f x (All-head P x w h)) (all_turned P Q f w (All-tail P x w h))

all_same : {X Y : Type 0} (P : X → Type 0) (f f' : X → Y) → ((x : X) → P x → f' x ≡ f x) → (w : List X) → All P w → map f' w ≡ map f w
all_same P f f' agree [] h = refl
all_same P f f' agree (x ∷ w) h =
    let head : f' x ≡ f x = agree x (All-head P x w h) in
    let tail = all_same P f f' agree w (All-tail P x w h) in cc

module _ {S B : Type 0} {owns : S → B → Type 0} where
  pub no_words : {s : S} {n : ℕ} → AreWordsIn owns s n []
  no_words {s} {n} = record { each = All-nil (IsWordIn owns s n) }

  pub words_push : {s : S} {n : ℕ} {w v : List (List B)} {b : List B} → AreWordsIn owns s n w → IsWordIn owns s n b → v ≡ w ++ b ∷ [] → AreWordsIn owns s n v
  words_push {s} {n} {w} {v} {b} h k e = subst (AreWordsIn owns s n) (sym e) (record { each = All-push (IsWordIn owns s n) w b h.each k })

  pub words_at : {s : S} {n : ℕ} {w : List (List B)} {b : List B} (i : ℕ) → AreWordsIn owns s n w → slice_get w i ≡ Some b → IsWordIn owns s n b
  words_at {s} {n} {w} {b} i h e = all_read (IsWordIn owns s n) w i b h.each e

module _ {S B : Type 0} {owns : S → B → Type 0} {reads : S → List Bool → B → Bool} {count : S → ℕ} where
  pub word_kept : {s t : S} {n : ℕ} {w : List B} → Extends owns reads count s t → IsWordIn owns s n w → IsWordIn owns t n w
  word_kept p h = record { owned = owned_later (extends_keeps p) h.owned; width = h.width }

  pub words_kept : {s t : S} {n : ℕ} {w : List (List B)} → Extends owns reads count s t → AreWordsIn owns s n w → AreWordsIn owns t n w
  words_kept {s} {t} {n} {w} p h = record { each = all_turned (IsWordIn owns s n) (IsWordIn owns t n) (λ x k. word_kept p k) w h.each }

  -- words read as before
  pub words_same : {s t : S} {n : ℕ} {w : List (List B)} → Extends owns reads count s t → AreWordsIn owns s n w → (vs : List Bool) → map (map (reads t vs)) w ≡ map (map (reads s vs)) w
  words_same {s} {t} {n} {w} p h vs = all_same (IsWordIn owns s n) (map (reads s vs)) (map (reads t vs)) (λ x k. read_later (extends_keeps p) k.owned vs) w h.each

-- what a call leaves of the bits that a state had
pub ruleset steps = (extends_trans, owns_none, owns_push, owns_read, owns_kept, no_words)

module _ {S B : Type 0} {owns : S → B → Type 0} where
  -- a word of another's width
  pub word_as : {s : S} {m n : ℕ} {w : List B} → n ≡ m → IsWordIn owns s n w → IsWordIn owns s m w
  word_as e h = record { owned = h.owned; width = h.width ∙ e }

  pub words_as : {s : S} {m n : ℕ} {w : List (List B)} → n ≡ m → AreWordsIn owns s n w → AreWordsIn owns s m w
  words_as {s} {m} {n} {w} e h = subst (λ (k : ℕ). AreWordsIn owns s k w) e h

  -- the width of what is read at a place
  pub width_at : {s : S} {n : ℕ} {w : List (List B)} → AreWordsIn owns s n w → (f : B → Bool) (k : ℕ) → k < length (map (map f) w) → length (get_or (map (map f) w) k []) ≡ n
  width_at {s} {n} {w} h f k l =
      let many : length (map (map f) w) ≡ length w = simp length-map refl in
      let item = All-get_or (IsWordIn owns s n) w k [] (omega arith) h.each in
      ap length (get_or-map (map f) w k [] [] (omega arith)) ∙ simp length-map item.width

  -- an equal word
  pub word_is : {s : S} {n : ℕ} {v w : List B} → v ≡ w → IsWordIn owns s n w → IsWordIn owns s n v
  word_is {s} {n} e h = subst (IsWordIn owns s n) (sym e) h
