-- Items of a list or a text, as far as its length.
use Rattle.std.proofs.Common.{◌≡◌, ◌∙◌, ℕ, zero, suc, ◌+◌, ◌<◌, ◌≤◌, ltb, Bool, true, false, ◌&&◌, ◌||◌, List, [], ◌∷◌, ◌++◌, length, map, take, refl, ap, sym, arith, length-append, length-take, Some, inl, inr, min}
use Rattle.std.specs.Prelude.{slice_get}
use Rattle.std.specs.List.{list_all}
use Rattle.std.proofs.lemmas.Bool.{cases_lt, false≢true, ltb-true, ltb-false}
use Rattle.std.proofs.lemmas.List.{length-map, map_push, take_all, take-append-le, take-map}
use Rattle.std.proofs.lemmas.List.Folds.{list_all-append}
use Rattle.bit_words.specs.Later.{owns_both, owns_first, owns_second}
use Rattle.bit_words.specs.Logic.{OwnsAll}
use Rattle.sym_values.specs.Forms.{joined, lengths}
use Rattle.sym_values.proofs.Held.{owns_none, take_read}

module _ {A : Type 0} where
  pub take_within : (n m : ℕ) (xs : List A) → n ≤ m → take n (take m xs) ≡ take n xs
  take_within zero m xs h = refl
  take_within (suc n) zero xs h = absurd (omega arith)
  take_within (suc n) (suc m) [] h = refl
  take_within (suc n) (suc m) (x ∷ xs) h = ap (λ w. x ∷ w) (take_within n m xs (omega arith))

  pub take_beyond : (n m : ℕ) (xs : List A) → m ≤ n → take n (take m xs) ≡ take m xs
  take_beyond zero zero xs h = refl
  take_beyond zero (suc m) xs h = absurd (omega arith)
  take_beyond (suc n) zero xs h = refl
  take_beyond (suc n) (suc m) [] h = refl
  take_beyond (suc n) (suc m) (x ∷ xs) h = ap (λ w. x ∷ w) (take_beyond n m xs (omega arith))

  -- one item more that is tested, if the length reaches it
  pub items_tested : (p : A → Bool) (xs : List A) (n j : ℕ) (x : A) → take (j + 1) xs ≡ take j xs ++ x ∷ []
      → list_all p (take n (take (j + 1) xs)) ≡ (list_all p (take n (take j xs)) && (ltb n (j + 1) || p x))
  items_tested p xs n j x e = by (ltb n (j + 1)) refl
    where
      all : (b : Bool) → b ≡ (b && true)
      all true = refl
      all false = refl

      one : (b : Bool) → (b && true) ≡ b
      one true = refl
      one false = refl

      by : (b : Bool) → ltb n (j + 1) ≡ b → list_all p (take n (take (j + 1) xs)) ≡ (list_all p (take n (take j xs)) && (b || p x))
      by true h =
          let lt : n < j + 1 = ltb-true n (j + 1) h in
          ap (list_all p) (take_within n (j + 1) xs (omega arith) ∙ sym (take_within n j xs (omega arith))) ∙ all (list_all p (take n (take j xs)))
      by false h =
          let le : j + 1 ≤ n = ltb-false n (j + 1) h in
          ap (list_all p) (take_beyond n (j + 1) xs le ∙ e)
          ∙ list_all-append p (take j xs) (x ∷ [])
          ∙ ap (λ b. list_all p (take j xs) && b) (one (p x))
          ∙ ap (λ w. list_all p w && p x) (sym (take_beyond n j xs (omega arith)))

  -- and that is right, if the length reaches it
  pub items_same : (xs ys zs : List A) (n j : ℕ) (x y : A) → length ys ≡ j → take n ys ≡ take n (take j xs) → zs ≡ ys ++ y ∷ []
      → take (j + 1) xs ≡ take j xs ++ x ∷ [] → (ltb n (j + 1) ≡ false → y ≡ x) → take n zs ≡ take n (take (j + 1) xs)
  items_same xs ys zs n j x y long h e f same = by (ltb n (j + 1)) refl
    where
      by : (b : Bool) → ltb n (j + 1) ≡ b → take n zs ≡ take n (take (j + 1) xs)
      by true t =
          let lt : n < j + 1 = ltb-true n (j + 1) t in
          ap (take n) e ∙ take-append-le n ys (y ∷ []) (omega arith) ∙ h
          ∙ take_within n j xs (omega arith) ∙ sym (take_within n (j + 1) xs (omega arith))
      by false t =
          let le : j + 1 ≤ n = ltb-false n (j + 1) t in
          let before : ys ≡ take j xs = sym (take_all n ys (omega arith)) ∙ h ∙ take_beyond n j xs (omega arith) in
          let many : length zs ≡ j + 1 = ap length e ∙ length-append ys (y ∷ []) ∙ ap (λ k. k + 1) long in
          take_all n zs (omega arith) ∙ e ∙ ap (λ w. w ++ y ∷ []) before ∙ ap (λ v. take j xs ++ v ∷ []) (same t) ∙ sym f ∙ sym (take_beyond n (j + 1) xs le)

-- a test that is let off, or holds
pub held : (within past right : Bool) → (within && (past || right)) ≡ true → (within ≡ true) × (past ≡ false → right ≡ true)
held true past right h = (refl, λ e. sym (ap (λ b. b || right) e) ∙ h)
held false past right h = absurd (false≢true h)

-- one element more of a list that is read
pub mapped_more : {A C : Type 0} (f : A → C) (xs : List A) (j : ℕ) (x : A) → slice_get xs j ≡ Some x → take (j + 1) (map f xs) ≡ take j (map f xs) ++ f x ∷ []
mapped_more f xs j x at =
    take-map f (j + 1) xs ∙ ap (map f) (take_read xs j x at) ∙ map_push f (take j xs) x ∙ ap (λ w. w ++ f x ∷ []) (sym (take-map f j xs))

-- so many as there are lengths
pub counted : {A : Type 0} (xs : List (List A)) (ns : List ℕ) (j : ℕ) → lengths xs ≡ take j ns → j ≤ length ns → length xs ≡ j
counted xs ns j e h = sym (length-map xs length) ∙ ap length e ∙ length-take j ns ∙ omega arith

-- two truth values, of which the second counts where the first is true
pub and_when : (a b x y : Bool) → a ≡ x → (x ≡ true → b ≡ y) → (a && b) ≡ (x && y)
and_when a b true y e h = ap (λ k. k && b) e ∙ h refl
and_when a b false y e h = ap (λ k. k && b) e

-- what is read of the first words, if others are behind them
pub first_words : {A C : Type 0} (f : A → C) (n m : ℕ) (ws whole : List A) → n ≤ m → take m whole ≡ ws → take n (map f whole) ≡ take n (map f ws)
first_words f n m ws whole h e =
    sym (take_within n m (map f whole) h) ∙ ap (take n) (take-map f m whole ∙ ap (map f) e)

-- so many at the front, where there may be fewer
pub take_least : {A : Type 0} (n : ℕ) (xs : List A) → take (min n (length xs)) xs ≡ take n xs
take_least n xs = elim (cases_lt n (length xs)) [
  | inl l ↦ let e : min n (length xs) ≡ n = omega arith in ap (λ k. take k xs) e
  | inr l ↦ let e : min n (length xs) ≡ length xs = omega arith in
      ap (λ k. take k xs) e ∙ take_all (length xs) xs (omega arith) ∙ sym (take_all n xs l)
]

-- the front of words, with others behind it
pub front_same : {A : Type 0} (k : ℕ) (xs whole : List A) → take (length (take k xs)) whole ≡ take k xs → length whole ≡ length xs → take k whole ≡ take k xs
front_same k xs whole h e = elim (cases_lt k (length xs)) [
  | inl l ↦ let many : length (take k xs) ≡ k = length-take k xs ∙ omega arith in sym (ap (λ m. take m whole) many) ∙ h
  | inr l ↦ let many : length (take k xs) ≡ length whole = length-take k xs ∙ omega arith in
      take_all k whole (omega arith) ∙ sym (take_all (length whole) whole (omega arith)) ∙ sym (ap (λ m. take m whole) many) ∙ h
]

pub front_lengths : {A : Type 0} (n : ℕ) (xs : List (List A)) → lengths (take n xs) ≡ take (length (take n xs)) (lengths xs)
front_lengths zero xs = refl
front_lengths (suc n) [] = refl
front_lengths (suc n) (x ∷ xs) = ap (λ w. length x ∷ w) (front_lengths n xs)

pub owns_front : {S B : Type 0} {owns : S → B → Type 0} {s : S} (n : ℕ) (ws : List (List B)) → OwnsAll owns s (joined ws) → OwnsAll owns s (joined (take n ws))
owns_front zero ws h = owns_none
owns_front (suc n) [] h = owns_none
owns_front (suc n) (w ∷ ws) h = owns_both (owns_first w (joined ws) h) (owns_front n ws (owns_second w (joined ws) h))
