-- Pieces whose elements pass a test, before nothing or before one that doesn't.
use Rattle.std.proofs.Common.{◌≡◌, suc, ◌+◌, Bool, true, false, not, List, [], ◌∷◌, ◌++◌, take, drop, refl, sym, ap, ◌∙◌, subst, arith}
use Rattle.std.specs.List.{list_all, prefix_len}
use Rattle.step_lines.proofs.Apart.{both, two, clash, cons_head, cons_tail}

-- a list doesn't begin with such an element
abbrev pub stops : {A : Type 0} → (A → Bool) → List A → Bool
stops test [] = true
stops test (x ∷ xs) = not (test x)

front_by : {A : Type 0} (p : A → Bool) (x : A) (xs : List A) (t : Bool) → p x ≡ t → list_all p (take (prefix_len p xs) xs) ≡ true → list_all p (take (prefix_len p (x ∷ xs)) (x ∷ xs)) ≡ true
front_by p x xs true e h =
    let s : 1 + prefix_len p xs ≡ suc (prefix_len p xs) = omega arith in
    rw (e, s) (two (p x) (list_all p (take (prefix_len p xs) xs)) e h)
front_by p x xs false e h = rw e refl

pub front_passes : {A : Type 0} (p : A → Bool) (xs : List A) → list_all p (take (prefix_len p xs) xs) ≡ true
front_passes p [] = refl
front_passes p (x ∷ xs) = front_by p x xs (p x) refl (front_passes p xs)

back_by : {A : Type 0} (p : A → Bool) (x : A) (xs : List A) (t : Bool) → p x ≡ t → stops p (drop (prefix_len p xs) xs) ≡ true → stops p (drop (prefix_len p (x ∷ xs)) (x ∷ xs)) ≡ true
back_by p x xs true e h =
    let s : 1 + prefix_len p xs ≡ suc (prefix_len p xs) = omega arith in
    rw (e, s) h
back_by p x xs false e h = rw e (ap not e)

pub back_stops : {A : Type 0} (p : A → Bool) (xs : List A) → stops p (drop (prefix_len p xs) xs) ≡ true
back_stops p [] = refl
back_stops p (x ∷ xs) = back_by p x xs (p x) refl (back_stops p xs)

pub record Same {A : Type 0} (u v r s : List A) : Type 0 where
  pub front : u ≡ v
  pub back : r ≡ s

hits : {A : Type 0} (p : A → Bool) (x : A) (xs r : List A) → p x ≡ true → stops p r ≡ true → r ≡ x ∷ xs → ⊥
hits p x xs r h i e = clash (p x) (subst (λ t. stops p t ≡ true) e i) h

-- where such a piece ends is known from the whole
pub cut_by : {A : Type 0} (p : A → Bool) (u v r s : List A) → list_all p u ≡ true → list_all p v ≡ true → stops p r ≡ true → stops p s ≡ true → u ++ r ≡ v ++ s → Same u v r s
cut_by p [] [] r s h g i j e = record { front = refl; back = e }
cut_by p [] (d ∷ v) r s h g i j e = absurd (hits p d (v ++ s) r (both (p d) (list_all p v) g).0 i e)
cut_by p (c ∷ u) [] r s h g i j e = absurd (hits p c (u ++ r) s (both (p c) (list_all p u) h).0 j (sym e))
cut_by p (c ∷ u) (d ∷ v) r s h g i j e =
    let same = cut_by p u v r s (both (p c) (list_all p u) h).1 (both (p d) (list_all p v) g).1 i j (cons_tail c d (u ++ r) (v ++ s) e) in
    let first = cons_head c d (u ++ r) (v ++ s) e in
    record { front = ap (λ x. x ∷ u) first ∙ ap (λ xs. d ∷ xs) same.front; back = same.back }
