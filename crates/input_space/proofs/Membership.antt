-- What is an element of lists that are joined, of tuples, and of the numbers below another.
use Rattle.std.proofs.Common.{◌≡◌, ℕ, zero, suc, ◌<◌, Bool, true, ◌&&◌, ◌⊎◌, inl, inr, List, [], ◌∷◌, ◌++◌, map, length, replicate, refl, sym, ap, subst, arith}
use Rattle.std.specs.List.{AllZip, Contains, flat_map, list_all}
use Rattle.std.proofs.lemmas.Bool.{cases_lt}
use Rattle.std.proofs.lemmas.List.Elements.{Contains-append_cases, Contains-append_left, Contains-append_right, Contains-push, Contains-push_cases}
use Rattle.mpy_tree.specs.Operations.{below}
use Rattle.input_space.specs.Inputs.{tuples}
use Rattle.input_space.proofs.Blocks.{beginning}

pub here : {A : Type 0} (x : A) (xs : List A) → Contains (x ∷ xs) x
here x xs = (0, omega arith, refl)

pub there : {A : Type 0} (y : A) (xs : List A) (x : A) → Contains xs x → Contains (y ∷ xs) x
there y xs x h = Contains-append_right (y ∷ []) xs x h

pub nowhere : {A : Type 0} (x : A) → Contains [] x → ⊥
nowhere x h = absurd (omega (arith, h.1))

-- the only element of a list of one
pub alone : {A : Type 0} (y x : A) → Contains (y ∷ []) x → y ≡ x
alone y x (zero, h, e) = e
alone y x (suc k, h, e) = absurd (omega arith)

pub cons_cases : {A : Type 0} (y : A) (xs : List A) (x : A) → Contains (y ∷ xs) x → (y ≡ x) ⊎ Contains xs x
cons_cases y xs x h = elim (Contains-append_cases (y ∷ []) xs x h) [ inl a ↦ inl (alone y x a) | inr b ↦ inr b ]

pub Contains-map : {A B : Type 0} (f : A → B) (xs : List A) (x : A) → Contains xs x → Contains (map f xs) (f x)
Contains-map f [] x h = absurd (nowhere x h)
Contains-map f (y ∷ xs) x h =
    elim (cons_cases y xs x h) [
      | inl e ↦ subst (λ z. Contains (f y ∷ map f xs) (f z)) e (here (f y) (map f xs))
      | inr a ↦ there (f y) (map f xs) (f x) (Contains-map f xs x a)
    ]

pub Contains-from_map : {A B : Type 0} (f : A → B) (xs : List A) (y : B) → Contains (map f xs) y → (x : A) × Contains xs x × (f x ≡ y)
Contains-from_map f [] y h = absurd (nowhere y h)
Contains-from_map {A} {B} f (z ∷ xs) y h =
    elim (cons_cases (f z) (map f xs) y h) as (λ _. (x : A) × Contains (z ∷ xs) x × (f x ≡ y)) [
      | inl e ↦ (z, here z xs, e)
      | inr a ↦ let r = Contains-from_map f xs y a in (r.0, there z xs r.0 r.1, r.2)
    ]

pub Contains-flat_map : {A B : Type 0} (f : A → List B) (xs : List A) (x : A) (y : B) → Contains xs x → Contains (f x) y → Contains (flat_map f xs) y
Contains-flat_map f [] x y h g = absurd (nowhere x h)
Contains-flat_map f (z ∷ xs) x y h g =
    elim (cons_cases z xs x h) [
      | inl e ↦ Contains-append_left (f z) (flat_map f xs) y (subst (λ w. Contains (f w) y) (sym e) g)
      | inr a ↦ Contains-append_right (f z) (flat_map f xs) y (Contains-flat_map f xs x y a g)
    ]

pub Contains-from_flat_map : {A B : Type 0} (f : A → List B) (xs : List A) (y : B) → Contains (flat_map f xs) y → (x : A) × Contains xs x × Contains (f x) y
Contains-from_flat_map f [] y h = absurd (nowhere y h)
Contains-from_flat_map {A} {B} f (z ∷ xs) y h =
    elim (Contains-append_cases (f z) (flat_map f xs) y h) as (λ _. (x : A) × Contains (z ∷ xs) x × Contains (f x) y) [
      | inl a ↦ (z, here z xs, a)
      | inr b ↦ let r = Contains-from_flat_map f xs y b in (r.0, there z xs r.0 r.1, r.2)
    ]

pub Contains-tuples : {A : Type 0} (xss : List (List A)) (ys : List A) → AllZip Contains xss ys → Contains (tuples xss) ys
Contains-tuples [] [] h = here [] []
Contains-tuples [] (y ∷ ys) h = absurd h
Contains-tuples (xs ∷ rest) [] h = absurd h
Contains-tuples (xs ∷ rest) (y ∷ ys) h =
    Contains-flat_map (beginning (tuples rest)) xs y (y ∷ ys) h.0
    (Contains-map (λ zs. y ∷ zs) (tuples rest) ys (Contains-tuples rest ys h.1))

pub Contains-from_tuples : {A : Type 0} (xss : List (List A)) (ys : List A) → Contains (tuples xss) ys → AllZip Contains xss ys
Contains-from_tuples [] ys h = subst (λ zs. AllZip Contains [] zs) (alone [] ys h) tt
Contains-from_tuples (xs ∷ rest) ys h =
    let r = Contains-from_flat_map (beginning (tuples rest)) xs ys h in
    let s = Contains-from_map (λ zs. r.0 ∷ zs) (tuples rest) ys r.2 in
    subst (λ zs. AllZip Contains (xs ∷ rest) zs) s.2 (r.1, Contains-from_tuples rest s.0 s.1)

pub Contains-below : (n k : ℕ) → k < n → Contains (below n) k
Contains-below zero k h = absurd (omega arith)
Contains-below (suc n) k h =
    elim (cases_lt k n) [
      | inl a ↦ Contains-append_left (below n) (n ∷ []) k (Contains-below n k a)
      | inr b ↦ let e : n ≡ k = omega arith in subst (λ m. Contains (below n ++ n ∷ []) m) e (Contains-push (below n) n)
    ]

pub lt-from_below : (n k : ℕ) → Contains (below n) k → k < n
lt-from_below zero k h = absurd (nowhere k h)
lt-from_below (suc n) k h =
    elim (Contains-push_cases (below n) n k h) [
      | inl a ↦ let b : k < n = lt-from_below n k a in omega arith
      | inr e ↦ omega arith
    ]

pub both : (a b : Bool) → (a && b) ≡ true → (a ≡ true) × (b ≡ true)
both a b h = grind arith

pub two : (a b : Bool) → a ≡ true → b ≡ true → (a && b) ≡ true
two a b h g = grind arith

-- lists of n elements that all pass a test, which decides what is an element of xs
module _ {A : Type 0} (xs : List A) (test : A → Bool) where
  pub from_powers : ((x : A) → Contains xs x → test x ≡ true) → (n : ℕ) (ys : List A) → AllZip Contains (replicate n xs) ys → (length ys ≡ n) × (list_all test ys ≡ true)
  from_powers t zero [] h = (refl, refl)
  from_powers t zero (y ∷ ys) h = absurd h
  from_powers t (suc n) [] h = absurd h
  from_powers t (suc n) (y ∷ ys) h =
      let r = from_powers t n ys h.1 in
      let first : test y ≡ true = t y h.0 in
      let rest : list_all test ys ≡ true = r.1 in
      (ap suc r.0, grind arith)

  pub in_powers : ((x : A) → test x ≡ true → Contains xs x) → (ys : List A) → list_all test ys ≡ true → AllZip Contains (replicate (length ys) xs) ys
  in_powers t [] h = tt
  in_powers t (y ∷ ys) h = let r = both (test y) (list_all test ys) h in (t y r.0, in_powers t ys r.1)
