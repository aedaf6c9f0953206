-- What owning the bits of a whole says of its parts, and the other way round.
use Rattle.std.specs.Prelude.{◌≡◌, ℕ, zero, suc, List, [], ◌∷◌, ◌++◌, Some, slice_get}
use Rattle.std.proofs.Common.{sym, subst}
use Rattle.std.proofs.lemmas.List.Elements.{All-cons, All-head, All-nil}
use Rattle.bit_words.specs.Logic.{OwnsAll}
use Rattle.bit_words.specs.Later.{owns_both, owns_first, owns_second}
use Rattle.sym_values.specs.declared.value.SymValue.{SymValue}
use Rattle.sym_values.specs.declared.value.SymValue.TheVariants as sym
use Rattle.sym_values.specs.Forms.{gathered, joined, bits_of}

module _ {S B : Type 0} {owns : S → B → Type 0} where
  owns_nothing : {s : S} → OwnsAll owns s []
  owns_nothing {s} = record { each = All-nil (owns s) }

  -- one bit
  pub owns_alone : {s : S} {b : B} → owns s b → OwnsAll owns s (b ∷ [])
  owns_alone {s} {b} h = record { each = All-cons (owns s) b [] h (All-nil (owns s)) }

  pub owns_only : {s : S} {b : B} → OwnsAll owns s (b ∷ []) → owns s b
  owns_only {s} {b} h = All-head (owns s) b [] h.each

  -- the parts of a value
  pub truth_owned : {s : S} {x : SymValue B} {b : B} → OwnsAll owns s (bits_of x) → x ≡ sym.Bool b
      → owns s b
  truth_owned {s} {x} {b} h e =
      owns_only (subst (λ (y : SymValue B). OwnsAll owns s (bits_of y)) e h)

  pub word_owned : {s : S} {x : SymValue B} {w : List B} → OwnsAll owns s (bits_of x)
      → x ≡ sym.Int w → OwnsAll owns s w
  word_owned {s} {x} {w} h e = subst (λ (y : SymValue B). OwnsAll owns s (bits_of y)) e h

  pub list_len_owned : {s : S} {x : SymValue B} {len : List B} {items : List (List B)}
      → OwnsAll owns s (bits_of x) → x ≡ sym.List len items → OwnsAll owns s len
  list_len_owned {s} {x} {len} {items} h e =
      owns_first len (joined items) (subst (λ (y : SymValue B). OwnsAll owns s (bits_of y)) e h)

  pub list_items_owned : {s : S} {x : SymValue B} {len : List B} {items : List (List B)}
      → OwnsAll owns s (bits_of x) → x ≡ sym.List len items → OwnsAll owns s (joined items)
  list_items_owned {s} {x} {len} {items} h e =
      owns_second len (joined items) (subst (λ (y : SymValue B). OwnsAll owns s (bits_of y)) e h)

  pub text_len_owned : {s : S} {x : SymValue B} {len : List B} {items : List (List B)}
      → OwnsAll owns s (bits_of x) → x ≡ sym.Text len items → OwnsAll owns s len
  text_len_owned {s} {x} {len} {items} h e =
      owns_first len (joined items) (subst (λ (y : SymValue B). OwnsAll owns s (bits_of y)) e h)

  pub text_items_owned : {s : S} {x : SymValue B} {len : List B} {items : List (List B)}
      → OwnsAll owns s (bits_of x) → x ≡ sym.Text len items → OwnsAll owns s (joined items)
  text_items_owned {s} {x} {len} {items} h e =
      owns_second len (joined items) (subst (λ (y : SymValue B). OwnsAll owns s (bits_of y)) e h)

  -- one thing more at the end of several
  owns_pushed : {s : S} {A : Type 0} (f : A → List B) (xs : List A) (x : A)
      → OwnsAll owns s (gathered f xs) → OwnsAll owns s (f x)
      → OwnsAll owns s (gathered f (xs ++ x ∷ []))
  owns_pushed f [] x h k = owns_both k owns_nothing
  owns_pushed f (y ∷ xs) x h k = owns_both (owns_first (f y) (gathered f xs) h)
      (owns_pushed f xs x (owns_second (f y) (gathered f xs) h) k)

  pub owns_one_more : {s : S} {A : Type 0} (f : A → List B) (xs ys : List A) (x : A)
      → OwnsAll owns s (gathered f xs) → OwnsAll owns s (f x) → ys ≡ xs ++ x ∷ []
      → OwnsAll owns s (gathered f ys)
  owns_one_more {s} {A} f xs ys x h k e =
      subst (λ (l : List A). OwnsAll owns s (gathered f l)) (sym e) (owns_pushed f xs x h k)

  -- one of several
  pub owns_one : {s : S} {A : Type 0} (f : A → List B) (xs : List A) (i : ℕ) (x : A)
      → OwnsAll owns s (gathered f xs) → slice_get xs i ≡ Some x → OwnsAll owns s (f x)
  owns_one f [] i x h e = cc
  owns_one {s} {A} f (y ∷ xs) zero x h e =
      let same : y ≡ x = cc in
      subst (λ (z : A). OwnsAll owns s (f z)) same (owns_first (f y) (gathered f xs) h)
  owns_one f (y ∷ xs) (suc i) x h e = owns_one f xs i x (owns_second (f y) (gathered f xs) h) e
