-- What calls in turn leave of the ends of a slice.
use Rattle.std.proofs.Common.{◌≡◌, ℕ, Bool, List, Some, refl, ap}
use Rattle.std.specs.Prelude.{IfSome, Option, None}
use denote.Ref.{Bor}
use Rattle.bit_words.specs.Logic.{Extends, OwnsAll, extends_keeps}
use Rattle.bit_words.specs.Later.{read_later}
use Rattle.bit_words.specs.Words.{int_of}
use Rattle.bit_words.proofs.Kept.{owns_kept}
use Rattle.bit_lists.specs.Lists.{IsListIn}
use Rattle.bit_lists.specs.Slices.{end_read}
use Rattle.bit_lists.proofs.Held.{word_kept, words_kept}

module _ {S B : Type 0} {owns : S → B → Type 0} {reads : S → List Bool → B → Bool} {count : S → ℕ} where
  pub end_kept : {s t : S} → Extends owns reads count s t → (o : Option (Bor (List B))) → IfSome o (λ w. OwnsAll owns s w.now) → (vs : List Bool) → end_read reads t vs o ≡ end_read reads s vs o
  end_kept p None h vs = refl
  end_kept p (Some w) h vs = ap (λ v. Some (int_of v)) (read_later (extends_keeps p) h vs)

  pub end_owned : {s t : S} → Extends owns reads count s t → (o : Option (Bor (List B))) → IfSome o (λ w. OwnsAll owns s w.now) → IfSome o (λ w. OwnsAll owns t w.now)
  end_owned p None h = h
  end_owned p (Some w) h = owns_kept p h

  -- a list with its length
  pub list_kept : {s t : S} {w cap : ℕ} {len : List B} {items : List (List B)} → Extends owns reads count s t → IsListIn owns s w cap len items → IsListIn owns t w cap len items
  list_kept p h = record { length_of = word_kept p h.length_of; items_of = words_kept p h.items_of; many = h.many }
