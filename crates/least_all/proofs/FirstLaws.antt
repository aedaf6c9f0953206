-- Lists without elements that are the same as an earlier one.
use Rattle.std.proofs.Common.{◌≡◌, ℕ, zero, suc, ◌<◌, Bool, true, false, ◌&&◌, ◌||◌, List, [], ◌∷◌, ◌++◌, length, map, refl, sym, ap, ◌∙◌, append-nil, arith}
use Rattle.std.specs.Prelude.{All, filter, not, slice_index_or}
use Rattle.std.specs.List.{list_any}
use Rattle.std.proofs.lemmas.List.Elements.{All-head, All-tail, filter-append, filter_agree}
use Rattle.least_all.specs.BestLists.{firsts}

abbrev pub IsTransitive : {A : Type 0} → (A → A → Bool) → Type 0
IsTransitive {A} same = (x y z : A) → same x y ≡ true → same y z ≡ true → same x z ≡ true

-- FILTERS

filter_any : {A : Type 0} (xs : List A) → filter (λ x. true) xs ≡ xs
filter_any [] = refl
filter_any (x ∷ xs) = ap (λ ys. x ∷ ys) (filter_any xs)

-- one filter behind another
filter_both_by : {A : Type 0} (p q : A → Bool) (x : A) (xs : List A) (a b : Bool) → p x ≡ a → q x ≡ b
    → filter p (filter q xs) ≡ filter (λ y. p y && q y) xs
    → filter p (filter q (x ∷ xs)) ≡ filter (λ y. p y && q y) (x ∷ xs)
filter_both_by p q x xs true true e f h = rw (f, e) (ap (λ ys. x ∷ ys) h)
filter_both_by p q x xs false true e f h = rw (f, e) h
filter_both_by p q x xs true false e f h = rw (f, e) h
filter_both_by p q x xs false false e f h = rw (f, e) h

filter_both : {A : Type 0} (p q : A → Bool) (xs : List A)
    → filter p (filter q xs) ≡ filter (λ y. p y && q y) xs
filter_both p q [] = refl
filter_both p q (x ∷ xs) = filter_both_by p q x xs (p x) (q x) refl refl (filter_both p q xs)

-- FIRSTS

module _ {A : Type 0} (same : A → A → Bool) (transitive : IsTransitive same) where
  -- none of these is the same
  abbrev pub is_new : List A → A → Bool
  is_new fs y = not (list_any (λ f. same f y) fs)

  any_other_by : (x y f : A) (fs : List A) (a b : Bool) → same x f ≡ a → same f y ≡ b → same x y ≡ false
      → list_any (λ z. same z y) fs ≡ list_any (λ z. same z y) (filter (λ z. not (same x z)) fs)
      → list_any (λ z. same z y) (f ∷ fs) ≡ list_any (λ z. same z y) (filter (λ z. not (same x z)) (f ∷ fs))
  any_other_by x y f fs true true e g n h = absurd (let t = transitive x f y e g in cc)
  any_other_by x y f fs true false e g n h = rw (e, g) h
  any_other_by x y f fs false b e g n h = rw e (ap (λ c. same f y || c) h)

  -- what isn't the same as one isn't the same as those that are the same as that
  any_other : (x y : A) (fs : List A) → same x y ≡ false
      → list_any (λ z. same z y) fs ≡ list_any (λ z. same z y) (filter (λ z. not (same x z)) fs)
  any_other x y [] n = refl
  any_other x y (f ∷ fs) n = any_other_by x y f fs (same x f) (same f y) refl refl n (any_other x y fs n)

  new_more_by : (x y : A) (fs : List A) (b : Bool) → same x y ≡ b
      → (not (same x y) && is_new fs y) ≡ is_new (x ∷ filter (λ z. not (same x z)) fs) y
  new_more_by x y fs true e = rw e refl
  new_more_by x y fs false e = let h = any_other x y fs e in rw e (ap not h)

  pub firsts_append : (xs ys : List A)
      → firsts same (xs ++ ys) ≡ firsts same xs ++ filter (is_new (firsts same xs)) (firsts same ys)
  firsts_append [] ys = sym (filter_any (firsts same ys))
  firsts_append (x ∷ xs) ys =
      let fs = firsts same xs in
      let gs = firsts same ys in
      let n : A → Bool = λ y. not (same x y) in
      let there = filter (is_new fs) gs in
      let both : filter n there ≡ filter (is_new (x ∷ filter n fs)) gs =
      filter_both n (is_new fs) gs
      ∙ filter_agree (λ y. n y && is_new fs y) (is_new (x ∷ filter n fs)) (λ y. new_more_by x y fs (same x y) refl) gs in
      ap (λ zs. x ∷ filter n zs) (firsts_append xs ys)
      ∙ ap (λ zs. x ∷ zs) (filter-append n fs there ∙ ap (λ zs. filter n fs ++ zs) both)

  -- one element more
  pub firsts_known : (xs : List A) (x : A) → list_any (λ f. same f x) (firsts same xs) ≡ true
      → firsts same (xs ++ x ∷ []) ≡ firsts same xs
  firsts_known xs x known = firsts_append xs (x ∷ []) ∙ (rw known (append-nil (firsts same xs)))

  pub firsts_new : (xs : List A) (x : A) → list_any (λ f. same f x) (firsts same xs) ≡ false
      → firsts same (xs ++ x ∷ []) ≡ firsts same xs ++ x ∷ []
  firsts_new xs x new = firsts_append xs (x ∷ []) ∙ (rw new refl)

-- TESTS

or_true : (a b : Bool) → b ≡ true → (a || b) ≡ true
or_true true b e = refl
or_true false b e = e

-- an element passes a test, or none does
pub any_true : {A : Type 0} (p : A → Bool) (xs : List A) (k : ℕ) (x : A) → k < length xs
    → slice_index_or xs k x ≡ x → p x ≡ true → list_any p xs ≡ true
any_true p [] k x within is e = absurd (omega arith)
any_true p (y ∷ ys) zero x within is e = let t : p y ≡ true = ap p is ∙ e in rw t refl
any_true p (y ∷ ys) (suc k) x within is e =
    or_true (p y) (list_any p ys) (any_true p ys k x (omega arith) is e)

pub none_true : {A : Type 0} (p : A → Bool) (xs : List A) → All (λ x. p x ≡ false) xs
    → list_any p xs ≡ false
none_true p [] all = refl
none_true p (x ∷ xs) all =
    let here : p x ≡ false = All-head (λ y. p y ≡ false) x xs all in
    rw here (none_true p xs (All-tail (λ y. p y ≡ false) x xs all))

pub any_map : {A B : Type 0} (p : B → Bool) (f : A → B) (xs : List A)
    → list_any p (map f xs) ≡ list_any (λ x. p (f x)) xs
any_map p f [] = refl
any_map p f (x ∷ xs) = ap (λ b. p (f x) || b) (any_map p f xs)
