-- What holds of each element of a list, and which elements a list has.
use Rattle.std.proofs.Common.{◌≡◌, Bool, true, false, cond, List, [], ◌∷◌, ◌++◌, map, refl}
use Rattle.std.proofs.Common.{ap, ◌∙◌, inl, inr}
use Rattle.std.specs.Prelude.{filter, flat_map}
use Rattle.choice_tree.specs.Rewriting.{In}

-- P holds of each element
abbrev pub Each : {A : Type 0} → (A → Type 0) → List A → Type 0
Each P [] = Unit {0}
Each P (x ∷ xs) = P x × Each P xs

pub each_append : {A : Type 0} (P : A → Type 0) (xs ys : List A) → Each P xs → Each P ys
    → Each P (xs ++ ys)
each_append P [] ys h k = k
each_append P (x ∷ xs) ys h k = (h.0, each_append P xs ys h.1 k)

pub each_map : {A B : Type 0} (P : A → Type 0) (Q : B → Type 0) (f : A → B) (xs : List A)
    → ((x : A) → P x → Q (f x)) → Each P xs → Each Q (map f xs)
each_map P Q f [] step h = tt
each_map P Q f (x ∷ xs) step h = (step x h.0, each_map P Q f xs step h.1)

pub each_flat_map : {A B : Type 0} (P : A → Type 0) (Q : B → Type 0) (f : A → List B) (xs : List A)
    → ((x : A) → P x → Each Q (f x)) → Each P xs → Each Q (flat_map f xs)
each_flat_map P Q f [] step h = tt
each_flat_map P Q f (x ∷ xs) step h =
    each_append Q (f x) (flat_map f xs) (step x h.0) (each_flat_map P Q f xs step h.1)

-- of any list
pub each_any : {A : Type 0} (P : A → Type 0) (xs : List A) → ((x : A) → P x) → Each P xs
each_any P [] h = tt
each_any P (x ∷ xs) h = (h x, each_any P xs h)

pub each_in : {A : Type 0} (P : A → Type 0) (xs : List A) (a : A) → Each P xs → In a xs → P a
each_in P [] a h i = absurd i
each_in P (x ∷ xs) a h i = elim i [
  | inl e ↦ rw e h.0
  | inr later ↦ each_in P xs a h.1 later
]

-- the elements that pass the test
kept_if : {A : Type 0} (a x : A) (xs : List A) (b : Bool) → In a xs → In a (cond b (x ∷ xs) xs)
kept_if a x xs true i = inr i
kept_if a x xs false i = i

first_kept : {A : Type 0} (x : A) (xs : List A) (b : Bool) → b ≡ true → In x (cond b (x ∷ xs) xs)
first_kept x xs true e = inl refl
first_kept x xs false e = cc

pub in_filter : {A : Type 0} (p : A → Bool) (xs : List A) (a : A) → In a xs → p a ≡ true
    → In a (filter p xs)
in_filter p [] a i e = i
in_filter p (x ∷ xs) a i e = elim i [
  | inl same ↦ rw same (first_kept x (filter p xs) (p x) (rw same at e))
  | inr later ↦ kept_if a x (filter p xs) (p x) (in_filter p xs a later e)
]

was_kept : {A : Type 0} (p : A → Bool) (a x : A) (xs ys : List A) (b : Bool) → p x ≡ b
    → (In a xs → In a ys × (p a ≡ true)) → In a (cond b (x ∷ xs) xs) → In a (x ∷ ys) × (p a ≡ true)
was_kept p a x xs ys true t k i = elim i [
  | inl same ↦ (inl same, ap p same ∙ t)
  | inr later ↦ (inr (k later).0, (k later).1)
]
was_kept p a x xs ys false t k i = (inr (k i).0, (k i).1)

pub in_filtered : {A : Type 0} (p : A → Bool) (xs : List A) (a : A) → In a (filter p xs) → In a xs
    × (p a ≡ true)
in_filtered p [] a i = absurd i
in_filtered p (x ∷ xs) a i = was_kept p a x (filter p xs) xs (p x) refl (in_filtered p xs a) i
