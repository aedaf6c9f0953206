-- Elements of lists by their places.
use Rattle.std.proofs.Common.{◌≡◌, ◌⊎◌, ℕ, zero, suc, ◌+◌, ◌<◌, ◌∙◌, List, [], ◌∷◌, ◌++◌, Some, sym, ap, subst, arith, refl, inl, inr, length, take, get_or}
use Rattle.std.specs.Prelude.{All, slice_get}
use Rattle.std.specs.List.{Contains}
use Rattle.std.proofs.lemmas.List.Elements.{All-append, All-cons, All-nil}
use Rattle.std.proofs.lemmas.Option.{get_or_from_slice_get, slice_get-get_or, slice_get_within}
use Rattle.sym_values.proofs.Held.{take_read}

module _ {X : Type 0} where
  -- what holds of each element holds of that at a place
  pub all_at : (P : X → Type 0) (xs : List X) (i : ℕ) (x : X) → All P xs → slice_get xs i ≡ Some x
      → P x
  all_at P xs i x all e =
      subst P (get_or_from_slice_get xs i x x e) (all i x (slice_get_within xs i x e))

  pub all_by : (P : X → Type 0) (xs : List X)
      → ((i : ℕ) (x : X) → slice_get xs i ≡ Some x → P x) → All P xs
  all_by P xs h = λ k d below. h k (get_or xs k d) (slice_get-get_or xs k d below)

  pub contains_at : (xs : List X) (i : ℕ) (x : X) → slice_get xs i ≡ Some x → Contains xs x
  contains_at xs i x e = (i, slice_get_within xs i x e, get_or_from_slice_get xs i x x e)

  pub place_of : (xs : List X) (x : X) (c : Contains xs x) → slice_get xs c.0 ≡ Some x
  place_of xs x c = slice_get-get_or xs c.0 x c.1 ∙ ap (λ y. Some y) c.2

  pub all_more : (P : X → Type 0) (xs : List X) (i : ℕ) (x : X) → slice_get xs i ≡ Some x
      → All P (take i xs) → P x → All P (take (i + 1) xs)
  all_more P xs i x at all here =
      subst (All P) (sym (take_read xs i x at))
      (All-append P (take i xs) (x ∷ []) all (All-cons P x [] here (All-nil P)))

  -- of two lists together
  pub get_front : (xs ys : List X) (i : ℕ) (x : X) → slice_get xs i ≡ Some x
      → slice_get (xs ++ ys) i ≡ Some x
  get_front [] ys i x e = cc
  get_front (z ∷ xs) ys zero x e = e
  get_front (z ∷ xs) ys (suc i) x e = get_front xs ys i x e

  pub get_behind : (xs ys : List X) (i j : ℕ) (x : X) → j ≡ length xs + i
      → slice_get ys i ≡ Some x → slice_get (xs ++ ys) j ≡ Some x
  get_behind [] ys i j x e h =
      let same : j ≡ i = omega (arith, e) in subst (λ k. slice_get ys k ≡ Some x) (sym same) h
  get_behind (z ∷ xs) ys i zero x e h = absurd (omega (arith, e))
  get_behind (z ∷ xs) ys i (suc j) x e h = get_behind xs ys i j x (omega (arith, e)) h

  pub get_take : (xs : List X) (j k : ℕ) (x : X) → j < k → slice_get xs j ≡ Some x
      → slice_get (take k xs) j ≡ Some x
  get_take [] j k x h e = cc
  get_take (z ∷ xs) j zero x h e = absurd (omega (arith, h))
  get_take (z ∷ xs) zero (suc k) x h e = e
  get_take (z ∷ xs) (suc j) (suc k) x h e = get_take xs j k x (omega (arith, h)) e

  pub of_take : (xs : List X) (j k : ℕ) (x : X) → slice_get (take k xs) j ≡ Some x
      → (j < k) × (slice_get xs j ≡ Some x)
  of_take [] j zero x e = absurd cc
  of_take [] j (suc k) x e = absurd cc
  of_take (z ∷ xs) j zero x e = absurd cc
  of_take (z ∷ xs) zero (suc k) x e = (omega arith, e)
  of_take (z ∷ xs) (suc j) (suc k) x e =
      let rest = of_take xs j k x e in (omega (arith, rest.0), rest.1)

  pub there : (xs : List X) (i : ℕ) → i < length xs → (x : X) × (slice_get xs i ≡ Some x)
  there [] i h = absurd (omega (arith, h))
  there (z ∷ xs) zero h = (z, refl)
  there (z ∷ xs) (suc i) h = there xs i (omega (arith, h))

  -- of a list with one element more
  pub get_pushed : (xs : List X) (x y : X) (i : ℕ) → slice_get (xs ++ x ∷ []) i ≡ Some y
      → (slice_get xs i ≡ Some y) ⊎ ((i ≡ length xs) × (x ≡ y))
  get_pushed [] x y zero e = inr (refl, cc)
  get_pushed [] x y (suc i) e = cc
  get_pushed (z ∷ xs) x y zero e = inl e
  get_pushed (z ∷ xs) x y (suc i) e = elim (get_pushed xs x y i e) [
    | inl h ↦ inl h
    | inr h ↦ inr (ap suc h.0, h.1)
  ]

pub compared : (j k : ℕ) → (j < k) ⊎ ((k < j) ⊎ (j ≡ k))
compared zero zero = inr (inr refl)
compared zero (suc k) = inl (omega arith)
compared (suc j) zero = inr (inl (omega arith))
compared (suc j) (suc k) = elim (compared j k) [
  | inl h ↦ inl (omega (arith, h))
  | inr h ↦ elim h [
    | inl g ↦ inr (inl (omega (arith, g)))
    | inr e ↦ inr (inr (ap suc e))
  ]
]
