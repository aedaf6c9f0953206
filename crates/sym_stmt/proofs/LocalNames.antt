-- The locals of a function that facts are about: each has a type, and no other has one.
use Rattle.std.proofs.Common.{◌≡◌, ℕ, ◌==◌, Bool, true, false, ◌&&◌, List, [], ◌∷◌, ◌++◌}
use Rattle.std.proofs.Common.{Some, None, if◌then◌else◌, refl, sym, ap, ◌∙◌, subst}
use Rattle.std.proofs.Common.{append_assoc, IsSome, is_some}
use Rattle.std.specs.Prelude.{All}
use Rattle.std.specs.List.{flat_map}
use Rattle.std.proofs.lemmas.Bool.{both_ways, eqb-true, false_from_ne_true, or_from, or_parts}
use Rattle.std.proofs.lemmas.List.Elements.{All-append, All-cons, All-head, All-nil, All-push}
use Rattle.std.proofs.lemmas.List.Elements.{All-tail}
use Rattle.std.proofs.lemmas.Slice.Eq.{bytes_eq-Decides}
use Rattle.mpy_tree.specs.declared.typing.Fact.{Fact}
use Rattle.mpy_tree.specs.declared.typing.Slot.{Slot}
use Rattle.mpy_tree.specs.declared.typing.Slot.TheVariants as slot
use Rattle.mpy_tree.specs.declared.typing.Ty.{Ty}
use Rattle.mpy_tree.specs.Locals.{and_new, is_among}
use Rattle.mpy_tree.specs.Names.{has_twice}
use Rattle.mpy_tree.specs.Rules.{single}
use Rattle.mpy_tree.specs.SetTypes.{FactSet, same_slot}
use Rattle.mpy_tree.specs.TypeSets.{join, just, no_types, only}
use Rattle.mpy_tree.specs.Typings.{set_of}
use Rattle.mpy_tree.specs.Values.{same_bytes}
use Rattle.sym_paths.specs.Places.{Begins}
use Rattle.sym_stmt.specs.FactSlots.{local_name, local_names, named_by}

same-is : (x y : List ℕ) → same_bytes x y ≡ true → x ≡ y
same-is x y = (bytes_eq-Decides x y).0

is-same : (x y : List ℕ) → x ≡ y → same_bytes x y ≡ true
is-same x y = (bytes_eq-Decides x y).1

other_way : (x y : List ℕ) → same_bytes x y ≡ false → same_bytes y x ≡ false
other_way x y e =
    false_from_ne_true (same_bytes y x) (λ h.
    both_ways (same_bytes x y) e (is-same x y (sym (same-is y x h))))

pub apart : (xs ys : List (List ℕ)) (x : List ℕ) → is_among (xs ++ ys) x ≡ false
    → (is_among xs x ≡ false) × (is_among ys x ≡ false)
apart [] ys x h = (refl, h)
apart (y ∷ xs) ys x h =
    let parts = or_parts (same_bytes x y) (is_among (xs ++ ys) x) h in
    let rest = apart xs ys x parts.1 in
    (or_from (same_bytes x y) (is_among xs x) parts.0 rest.0, rest.1)

together : (xs ys : List (List ℕ)) (x : List ℕ) → is_among xs x ≡ false → is_among ys x ≡ false
    → is_among (xs ++ ys) x ≡ false
together [] ys x h k = k
together (y ∷ xs) ys x h k =
    let parts = or_parts (same_bytes x y) (is_among xs x) h in
    or_from (same_bytes x y) (is_among (xs ++ ys) x) parts.0 (together xs ys x parts.1 k)

-- a name that isn't among others may stand behind them
one_more_differs : (xs : List (List ℕ)) (c : List ℕ) → has_twice xs ≡ false
    → is_among xs c ≡ false → has_twice (xs ++ c ∷ []) ≡ false
one_more_differs [] c h k = refl
one_more_differs (x ∷ xs) c h k =
    let before = or_parts (is_among xs x) (has_twice xs) h in
    let other = or_parts (same_bytes c x) (is_among xs c) k in
    let alone = or_from (same_bytes x c) false (other_way c x other.0) refl in
    or_from (is_among (xs ++ c ∷ []) x) (has_twice (xs ++ c ∷ []))
    (together xs (c ∷ []) x before.0 alone) (one_more_differs xs c before.1 other.1)

abbrev with_name : Bool → List (List ℕ) → List ℕ → List (List ℕ)
with_name b seen x = if b then seen else seen ++ x ∷ []

with_differs : (b : Bool) (seen : List (List ℕ)) (x : List ℕ) → is_among seen x ≡ b
    → has_twice seen ≡ false → has_twice (with_name b seen x) ≡ false
with_differs true seen x e h = h
with_differs false seen x e h = one_more_differs seen x h e

pub new_differ : (seen xs : List (List ℕ)) → has_twice seen ≡ false
    → has_twice (and_new seen xs) ≡ false
new_differ seen [] h = h
new_differ seen (x ∷ xs) h =
    new_differ (with_name (is_among seen x) seen x) xs
    (with_differs (is_among seen x) seen x refl h)

begins_with : (b : Bool) (seen : List (List ℕ)) (x : List ℕ) (all : List (List ℕ))
    → Begins (with_name b seen x) all → Begins seen all
begins_with true seen x all h = h
begins_with false seen x all h = (x ∷ h.0, h.1 ∙ append_assoc seen (x ∷ []) h.0)

nothing_behind : (xs : List (List ℕ)) → xs ≡ xs ++ []
nothing_behind [] = refl
nothing_behind (x ∷ xs) = ap (λ ys. x ∷ ys) (nothing_behind xs)

pub new_begin : (seen xs : List (List ℕ)) → Begins seen (and_new seen xs)
new_begin seen [] = ([], nothing_behind seen)
new_begin seen (x ∷ xs) =
    begins_with (is_among seen x) seen x (and_new seen (x ∷ xs))
    (new_begin (with_name (is_among seen x) seen x) xs)

module _ (P : List ℕ → Type 0) where
  with_all : (b : Bool) (seen : List (List ℕ)) (x : List ℕ) → All P seen → P x
      → All P (with_name b seen x)
  with_all true seen x h k = h
  with_all false seen x h k = All-push P seen x h k

  pub new_all : (seen xs : List (List ℕ)) → All P seen → All P xs → All P (and_new seen xs)
  new_all seen [] h k = h
  new_all seen (x ∷ xs) h k =
      new_all (with_name (is_among seen x) seen x) xs
      (with_all (is_among seen x) seen x h (All-head P x xs k)) (All-tail P x xs k)

with_none : (b : Bool) (seen : List (List ℕ)) (y x : List ℕ) → is_among seen y ≡ b
    → is_among (with_name b seen y) x ≡ false
    → (is_among seen x ≡ false) × (same_bytes x y ≡ false)
with_none true seen y x e h = (
  h,
  false_from_ne_true (same_bytes x y) (λ k.
      both_ways (is_among seen x) h (ap (is_among seen) (same-is x y k) ∙ e)),
)
with_none false seen y x e h =
    let both = apart seen (y ∷ []) x h in
    (both.0, (or_parts (same_bytes x y) false both.1).0)

pub new_none : (seen xs : List (List ℕ)) (x : List ℕ) → is_among (and_new seen xs) x ≡ false
    → (is_among seen x ≡ false) × (is_among xs x ≡ false)
new_none seen [] x h = (h, refl)
new_none seen (y ∷ xs) x h =
    let rest = new_none (with_name (is_among seen y) seen y) xs x h in
    let here = with_none (is_among seen y) seen y x refl rest.0 in
    (here.0, or_from (same_bytes x y) (is_among xs x) here.1 rest.1)

-- what no fact is about has no type
not_there : (b : Bool) (s : Slot) (x : List ℕ)
    → is_among (if b then local_name s else []) x ≡ false
    → (b && same_slot s (slot.Local x)) ≡ false
not_there false s x h = refl
not_there true (slot.Local y) x h = other_way x y (or_parts (same_bytes x y) false h).0
not_there true slot.Result x h = refl

no_fact : (T : List Fact) (i : ℕ) (x : List ℕ) → is_among (flat_map (named_by i) T) x ≡ false
    → set_of T i (slot.Local x) ≡ no_types
no_fact [] i x h = refl
no_fact (f ∷ T) i x h =
    let both = apart (named_by i f) (flat_map (named_by i) T) x h in
    let rest = set_of T i (slot.Local x) in
    ap (λ b. if b then join (just f.ty) rest else rest) (not_there (f.func == i) f.slot x both.0)
    ∙ no_fact T i x both.1

pub others_none : (T : List Fact) (i : ℕ) (params : List (List ℕ)) (x : List ℕ)
    → is_among (local_names i params T) x ≡ false → single (set_of T) i (slot.Local x) ≡ None
others_none T i params x h =
    ap only (no_fact T i x (new_none params (flat_map (named_by i) T) x h).1)

-- what a fact is about has one, where the facts are alone
module _ (F : FactSet) (i : ℕ) where
  abbrev HasType : List ℕ → Type 0
  HasType x = IsSome (single F i (slot.Local x))

  named_typed : (b : Bool) (n : ℕ) (s : Slot) (t : Ty) → (n == i) ≡ b → single F n s ≡ Some t
      → All HasType (if b then local_name s else [])
  named_typed false n s t e h = All-nil HasType
  named_typed true n slot.Result t e h = All-nil HasType
  named_typed true n (slot.Local y) t e h =
      let here = subst (λ j. single F j (slot.Local y) ≡ Some t) (eqb-true n i e) h in
      All-cons HasType y [] (ap is_some here) (All-nil HasType)

  pub facts_typed : (T : List Fact) → All (λ (f : Fact). single F f.func f.slot ≡ Some f.ty) T
      → All HasType (flat_map (named_by i) T)
  facts_typed [] h = All-nil HasType
  facts_typed (f ∷ T) h =
      let P = λ (f : Fact). single F f.func f.slot ≡ Some f.ty in
      All-append HasType (named_by i f) (flat_map (named_by i) T)
      (named_typed (f.func == i) f.func f.slot f.ty refl (All-head P f T h))
      (facts_typed T (All-tail P f T h))

pub locals_typed : (T : List Fact) (i : ℕ) (params : List (List ℕ))
    → All (λ (f : Fact). single (set_of T) f.func f.slot ≡ Some f.ty) T
    → All (λ x. IsSome (single (set_of T) i (slot.Local x))) params
    → All (λ x. IsSome (single (set_of T) i (slot.Local x))) (local_names i params T)
locals_typed T i params h k =
    new_all (λ x. IsSome (single (set_of T) i (slot.Local x))) params (flat_map (named_by i) T)
    k (facts_typed (set_of T) i T h)
