-- What later states owe to earlier ones, and what new variables read as.
use Rattle.std.specs.Prelude.{◌≡◌, ℕ, zero, suc, ◌+◌, Bool, false, List, [], ◌∷◌, ◌++◌, All, map}
use Rattle.std.specs.Prelude.{refl, slice_index_or}
use Rattle.std.proofs.Common.{◌∙◌, ap, sym, arith}
use Rattle.std.proofs.lemmas.List.Elements.{All-append, All-cons, All-head, All-nil, All-tail}
use Rattle.bit_words.specs.Logic.{Extends, Keeps, OwnsAll}
use Rattle.bit_words.specs.Words.{nat_read, int_read}

-- a state keeps the bits of an earlier one, which read as before, and has so many variables more
pub record AddsVariables {S B : Type 0} (owns : S → B → Type 0) (reads : S → List Bool → B → Bool)
    (count : S → ℕ)
    (n : ℕ) (old new : S) : Type 0 where
  pub kept : (b : B) → owns old b → owns new b
  pub same : (b : B) → owns old b → (vs : List Bool) → reads new vs b ≡ reads old vs b
  pub variables : count new ≡ count old + n

-- so many truth values from a place on; past the end they are false
abbrev pub values_from : List Bool → ℕ → ℕ → List Bool
values_from vs start zero = []
values_from vs start (suc n) = slice_index_or vs start false ∷ values_from vs (start + 1) n

pub values_from_more : (vs : List Bool) (start n : ℕ)
    → values_from vs start (n + 1)
    ≡ values_from vs start n ++ slice_index_or vs (start + n) false ∷ []
values_from_more vs start zero =
    let e : start + 0 ≡ start = omega arith in ap (λ k. slice_index_or vs k false ∷ []) (sym e)
values_from_more vs start (suc n) =
    let rest : values_from vs (start + 1) (n + 1)
    ≡ values_from vs (start + 1) n ++ slice_index_or vs (start + 1 + n) false ∷ [] =
    values_from_more vs (start + 1) n in
    let place : start + 1 + n ≡ start + suc n = omega arith in
    let step : suc n + 1 ≡ suc (n + 1) = omega arith in
    rw step (ap (λ w. slice_index_or vs start false ∷ w)
    (rest ∙ ap (λ k. values_from vs (start + 1) n ++ slice_index_or vs k false ∷ []) place))

module _ {S B : Type 0} {owns : S → B → Type 0} {reads : S → List Bool → B → Bool}
    {count : S → ℕ} where
  -- a call that adds no variable adds none, and the other way round
  pub adds_none : {s t : S} → Extends owns reads count s t → AddsVariables owns reads count 0 s t
  adds_none p =
      let e = p.variables in record { kept = p.kept; same = p.same; variables = omega arith }

  pub none_added : {s t : S} → AddsVariables owns reads count 0 s t → Extends owns reads count s t
  none_added p =
      let e = p.variables in record { kept = p.kept; same = p.same; variables = omega arith }

  pub adds_keeps : {n : ℕ} {s t : S} → AddsVariables owns reads count n s t → Keeps owns reads s t
  adds_keeps p = record { kept = p.kept; same = p.same }

  -- in turn
  pub adds_trans : {m n : ℕ} {s t u : S} → AddsVariables owns reads count m s t
      → AddsVariables owns reads count n t u
      → AddsVariables owns reads count (m + n) s u
  adds_trans p q = let e = p.variables in let f = q.variables in record {
    kept = λ b h. q.kept b (p.kept b h);
    same = λ b h vs. q.same b (p.kept b h) vs ∙ p.same b h vs;
    variables = omega arith;
  }

module _ {B : Type 0} where
  alike : (f g : B → Bool) (P : B → Type 0) → ((b : B) → P b → g b ≡ f b) → (w : List B) → All P w
      → map g w ≡ map f w
  alike f g P agree [] h = refl
  alike f g P agree (x ∷ w) h =
      let head : g x ≡ f x = agree x (All-head P x w h) in
      let tail = alike f g P agree w (All-tail P x w h) in cc

  all_first : (P : B → Type 0) (v w : List B) → All P (v ++ w) → All P v
  all_first P [] w h = All-nil P
  all_first P (x ∷ v) w h = All-cons P x v (All-head P x (v ++ w) h)
      (all_first P v w (All-tail P x (v ++ w) h))

  all_second : (P : B → Type 0) (v w : List B) → All P (v ++ w) → All P w
  all_second P [] w h = h
  all_second P (x ∷ v) w h = all_second P v w (All-tail P x (v ++ w) h)

module _ {S B : Type 0} {owns : S → B → Type 0} {reads : S → List Bool → B → Bool} where
  -- a list of bits, and its numbers, read in a later state as before
  pub owned_later : {s t : S} {w : List B} → Keeps owns reads s t → OwnsAll owns s w
      → OwnsAll owns t w
  owned_later p h = record { each = λ k d l. p.kept _ (h.each k d l) }

  pub read_later : {s t : S} {w : List B} → Keeps owns reads s t → OwnsAll owns s w
      → (vs : List Bool) → map (reads t vs) w ≡ map (reads s vs) w
  read_later {s} {t} {w} p h vs = alike (reads s vs) (reads t vs) (owns s)
      (λ b k. p.same b k vs) w h.each

  pub nat_later : {s t : S} {w : List B} → Keeps owns reads s t → OwnsAll owns s w
      → (vs : List Bool) → nat_read reads t vs w ≡ nat_read reads s vs w
  nat_later p h vs = rw (read_later p h vs) refl

  pub int_later : {s t : S} {w : List B} → Keeps owns reads s t → OwnsAll owns s w
      → (vs : List Bool) → int_read reads t vs w ≡ int_read reads s vs w
  int_later p h vs = rw (read_later p h vs) refl

-- two lists end to end
module _ {S B : Type 0} {owns : S → B → Type 0} where
  pub owns_both : {s : S} {v w : List B} → OwnsAll owns s v → OwnsAll owns s w
      → OwnsAll owns s (v ++ w)
  owns_both {s} {v} {w} p q = record { each = All-append (owns s) v w p.each q.each }

  pub owns_first : {s : S} (v w : List B) → OwnsAll owns s (v ++ w) → OwnsAll owns s v
  owns_first {s} v w p = record { each = all_first (owns s) v w p.each }

  pub owns_second : {s : S} (v w : List B) → OwnsAll owns s (v ++ w) → OwnsAll owns s w
  owns_second {s} v w p = record { each = all_second (owns s) v w p.each }
