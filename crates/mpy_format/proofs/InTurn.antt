-- Files in turn: the first of those that are left, and the rest.
use Rattle.std.proofs.Common.{◌≡◌, ◌∙◌, ◌+◌, ◌<◌, ◌≤◌, ◌++◌, ℕ, List, [], ◌∷◌, length, map, drop, take, get_or, zero, suc, Option, Some, None, false, true, refl, sym, ap, subst, arith, inl, inr}
use Rattle.std.proofs.lemmas.List.{append-nil, drop_all, drop_more}
use Rattle.grade_io.specs.Devices.{Devices, ShelfState, Fetch, added}
use Rattle.grade_io.proofs.CallList.{go_on}
use Rattle.grade_io.specs.declared.status.Status.{Status}
use Rattle.grade_io.specs.declared.status.Status.TheVariants as status
use Rattle.mpy_format.specs.Ends.{Ends, IsFetched}
use Rattle.mpy_format.specs.Files.{EndInTurn, FetchedInOrder, no_more, stopped, next, goes_on, joined}

first_left : {A B : Type 0} (f : A → B) (xs : List A) (i : ℕ) (x : A) → i < length xs → x ≡ get_or xs i x → map f (drop i xs) ≡ f x ∷ map f (drop (i + 1) xs)
first_left f xs i x within is = ap (map f) (drop_more xs i x within ∙ ap (λ y. y ∷ drop (i + 1) xs) (sym is))

module _ {A : Type 0} (f : A → List ℕ) (xs : List A) (i : ℕ) (s : Status) (d : Devices) where
  -- a file that ends so is the first of those that are left
  pub goes_on_with : (x : A) (file : List ℕ) (said both : Status) (e last : Devices) (r : Status) → i < length xs → x ≡ get_or xs i x → file ≡ f x → Ends file d e said → goes_on said ≡ true → both ≡ joined s said
      → EndInTurn both (map f (drop (i + 1) xs)) e last r → EndInTurn s (map f (drop i xs)) d last r
  goes_on_with x file said both e last r within is name ends goes same rest =
      subst (λ fs. EndInTurn s fs d last r) (sym (first_left f xs i x within is))
      (next said e (subst (λ b. Ends b d e said) name ends) goes (subst (λ t. EndInTurn t (map f (drop (i + 1) xs)) e last r) same rest))

  pub stops_with : (x : A) (file : List ℕ) (said both : Status) (e : Devices) → i < length xs → x ≡ get_or xs i x → file ≡ f x → Ends file d e said → goes_on said ≡ false → both ≡ joined s said
      → EndInTurn s (map f (drop i xs)) d e both
  stops_with x file said both e within is name ends stops same =
      subst (λ fs. EndInTurn s fs d e both) (sym (first_left f xs i x within is))
      (subst (λ t. EndInTurn s (f x ∷ map f (drop (i + 1) xs)) d e t) (sym same) (stopped said (subst (λ b. Ends b d e said) name ends) stops))

  pub none_left : length xs ≤ i → EndInTurn s (map f (drop i xs)) d d s
  none_left past = subst (λ fs. EndInTurn s fs d d s) (sym (ap (map f) (drop_all i xs past))) no_more

-- THE CALLS

-- one name more
next_by_suc : {A : Type 0} (f : A → List ℕ) (xs : List A) (i : ℕ) (x : A) (file : List ℕ) → i < length xs → x ≡ get_or xs i x → file ≡ f x
    → take (suc i) (map Fetch (map f xs)) ≡ take i (map Fetch (map f xs)) ++ Fetch file ∷ []
next_by_suc f [] i x file within is name = let no : ⊥ = omega (arith, within) in absurd no
next_by_suc f (y ∷ ys) zero x file within is name = ap (λ z. Fetch z ∷ []) (ap f (sym is) ∙ sym name)
next_by_suc f (y ∷ ys) (suc i) x file within is name = ap (λ calls. Fetch (f y) ∷ calls) (next_by_suc f ys i x file (omega (arith, within)) is name)

one_more : (i : ℕ) → suc i ≡ i + 1
one_more i = omega (arith)

next_call : {A : Type 0} (f : A → List ℕ) (xs : List A) (i : ℕ) (x : A) (file : List ℕ) → i < length xs → x ≡ get_or xs i x → file ≡ f x
    → take (i + 1) (map Fetch (map f xs)) ≡ take i (map Fetch (map f xs)) ++ Fetch file ∷ []
next_call f xs i x file within is name =
    subst (λ (n : ℕ). take n (map Fetch (map f xs)) ≡ take i (map Fetch (map f xs)) ++ Fetch file ∷ []) (one_more i) (next_by_suc f xs i x file within is name)

pub added_none : {A : Type 0} (o : Option (List A)) → o ≡ added o []
added_none None = refl
added_none (Some xs) = ap Some (sym (append-nil xs))

module _ {A : Type 0} (f : A → List ℕ) (xs : List A) (i : ℕ) (x : A) (file : List ℕ) (first now last : ShelfState)
    (within : i < length xs) (is : x ≡ get_or xs i x) (name : file ≡ f x)
    (before : now.calls ≡ added first.calls (take i (map Fetch (map f xs)))) where
  one_call : last.calls ≡ added now.calls (Fetch file ∷ []) → last.calls ≡ added first.calls (take (i + 1) (map Fetch (map f xs)))
  one_call more = go_on first.calls now.calls last.calls (take i (map Fetch (map f xs))) (Fetch file) before more
      ∙ ap (added first.calls) (sym (next_call f xs i x file within is name))

  pub fetched_next : (said : Status) → IsFetched file now last said → goes_on said ≡ true
      → last.calls ≡ added first.calls (take (i + 1) (map Fetch (map f xs)))
  fetched_next status.Correct h goes = one_call h
  fetched_next status.Refused h goes = one_call h
  fetched_next status.NoMemory h goes = cc
  fetched_next _ h goes = one_call h

  pub fetched_last : (said : Status) → IsFetched file now last said → FetchedInOrder (map f xs) first last
  fetched_last status.NoMemory h = elim h [
    | inl more ↦ (i + 1, one_call more)
    | inr same ↦ (i, same ∙ before)
  ]
  fetched_last _ h = (i + 1, one_call h)
