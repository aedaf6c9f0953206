-- The slots of programs whose functions have the same heads and assign to the same names, and what
-- facts that type one tell of those of the other.
use Rattle.std.proofs.Common.{◌≡◌, ◌<◌, ◌≤◌, ℕ, ◌+◌, ◌==◌, Bool, true, false, ◌&&◌, ◌||◌, List, []}
use Rattle.std.proofs.Common.{◌∷◌, ◌++◌, map, Option, Some, None, if◌then◌else◌, refl, sym}
use Rattle.std.proofs.Common.{ap, ◌∙◌, arith}
use Rattle.std.specs.Prelude.{⊤}
use Rattle.std.specs.List.{All, list_any}
use Rattle.std.proofs.Math.Bool.{or-false}
use Rattle.std.proofs.lemmas.Bool.{eq-eqb, ne_eqb}
use Rattle.std.proofs.lemmas.List.Elements.{All-cons, All-head, All-nil, All-tail}
use Rattle.std.proofs.lemmas.List.Folds.{list_any-append}
use lib.Pointwise.{bytes_decides}
use Rattle.mpy_tree.specs.declared.typing.Fact.{Fact}
use Rattle.mpy_tree.specs.declared.typing.Slot.{Slot}
use Rattle.mpy_tree.specs.declared.typing.Slot.TheVariants as slot
use Rattle.mpy_tree.specs.declared.typing.Ty.{Ty}
use Rattle.mpy_tree.specs.declared.typing.TypeError.{TypeError}
use Rattle.mpy_tree.specs.declared.typing.TypeSet.{TypeSet}
use Rattle.mpy_tree.specs.Faults.{Place, listed, local_line, may_lack, or_fault, place}
use Rattle.mpy_tree.specs.Faults.{routine_slots, slot_fault, slots_fault, slots_from}
use Rattle.mpy_tree.specs.Locals.{is_among, locals}
use Rattle.mpy_tree.specs.SetTypes.{FactSet, same_place, same_slot}
use Rattle.mpy_tree.specs.Syntax.{Routine}
use Rattle.mpy_tree.specs.TypeSets.{join, just, no_types}
use Rattle.mpy_tree.specs.Typings.{IsOfSlot, set_of}
use Rattle.mpy_tree.specs.Values.{same_bytes}
use Rattle.mpy_scopes.proofs.Places.{at_place}
use Rattle.rewriting_laws.proofs.Locals.{assigned_in, local_names}
use Rattle.mpy_type_laws.proofs.Nothing.{none_both}

pub record SameHead (r q : Routine) : Type 0 where
  pub line : q.line ≡ r.line
  pub name : q.name ≡ r.name
  pub params : q.params ≡ r.params
  pub assigned : assigned_in q ≡ assigned_in r

abbrev pub SameHeads : List Routine → List Routine → Type 0
SameHeads [] [] = ⊤
SameHeads (r ∷ rs) (q ∷ qs) = SameHead r q × SameHeads rs qs
SameHeads _ _ = ⊥

-- whether a function has the slot
abbrev pub is_slot : Routine → Slot → Bool
is_slot r (slot.Local x) = is_among (locals r) x
is_slot r slot.Result = true

pub same_slots : (r q : Routine) → SameHead r q → (y : Slot) → is_slot q y ≡ is_slot r y
same_slots r q h (slot.Local x) =
    local_names x q ∙ (λ i. is_among (h.params i) x || is_among (h.assigned i) x)
    ∙ sym (local_names x r)
same_slots r q h slot.Result = refl

-- the slot y of the function j stands in those from the number n on
abbrev stands_in : ℕ → Slot → ℕ → List Routine → Bool
stands_in j y n [] = false
stands_in j y n (r ∷ rs) = (j == n) && is_slot r y || stands_in j y (n + 1) rs

stand_alike : (rs qs : List Routine) → SameHeads rs qs → (j : ℕ) (y : Slot) (n : ℕ)
    → stands_in j y n qs ≡ stands_in j y n rs
stand_alike [] [] h j y n = refl
stand_alike [] (q ∷ qs) h j y n = absurd h
stand_alike (r ∷ rs) [] h j y n = absurd h
stand_alike (r ∷ rs) (q ∷ qs) h j y n =
    λ i. (j == n) && same_slots r q h.0 y i || stand_alike rs qs h.1 j y (n + 1) i

module _ (j : ℕ) (y : Slot) where
  abbrev is_at : Place → Bool
  is_at s = same_place j y s.func s.slot

  abbrev among_names : Slot → List (List ℕ) → Bool
  among_names (slot.Local x) xs = is_among xs x
  among_names slot.Result xs = false

  no_names : (b : Bool) (z : Slot) → false ≡ b && among_names z []
  no_names false z = refl
  no_names true (slot.Local x) = refl
  no_names true slot.Result = refl

  one_name : (b : Bool) (z : Slot) (x : List ℕ) (xs : List (List ℕ))
      → b && same_slot z (slot.Local x) || b && among_names z xs ≡ b && among_names z (x ∷ xs)
  one_name false z x xs = refl
  one_name true (slot.Local w) x xs = refl
  one_name true slot.Result x xs = refl

  names_there : (n : ℕ) (r : Routine) (xs : List (List ℕ))
      → list_any is_at (map (λ x. place n (slot.Local x) (local_line r x)) xs)
      ≡ (j == n) && among_names y xs
  names_there n r [] = no_names (j == n) y
  names_there n r (x ∷ xs) =
      (λ i. same_place j y n (slot.Local x) || names_there n r xs i) ∙ one_name (j == n) y x xs

  with_result : (b : Bool) (z : Slot) (r : Routine)
      → b && among_names z (locals r) || (b && same_slot z slot.Result || false)
      ≡ b && is_slot r z
  with_result false z r = refl
  with_result true (slot.Local x) r = or-false (is_among (locals r) x)
  with_result true slot.Result r = refl

  routine_there : (n : ℕ) (r : Routine)
      → list_any is_at (routine_slots n r) ≡ (j == n) && is_slot r y
  routine_there n r =
      let names = map (λ x. place n (slot.Local x) (local_line r x)) (locals r) in
      list_any-append is_at names (place n slot.Result r.line ∷ [])
      ∙ (λ i. names_there n r (locals r) i || (same_place j y n slot.Result || false))
      ∙ with_result (j == n) y r

  there : (n : ℕ) (rs : List Routine) → list_any is_at (slots_from n rs) ≡ stands_in j y n rs
  there n [] = refl
  there n (r ∷ rs) =
      list_any-append is_at (routine_slots n r) (slots_from (n + 1) rs)
      ∙ (λ i. routine_there n r i || there (n + 1) rs i)

-- facts about slots of one are about slots of the other
pub facts_stand : (s p : List Routine) → SameHeads s p → (T : List Fact) → All (IsOfSlot s) T
    → All (IsOfSlot p) T
facts_stand s p h [] a = All-nil (IsOfSlot p)
facts_stand s p h (f ∷ T) a =
    let before = All-head (IsOfSlot s) f T a in
    let after =
    there f.func f.slot 0 p ∙ stand_alike s p h f.func f.slot 0
    ∙ sym (there f.func f.slot 0 s) ∙ before in
    All-cons (IsOfSlot p) f T after (facts_stand s p h T (All-tail (IsOfSlot s) f T a))

-- A slot of a function has one type, but the result of the function `free` may have none.
abbrev pub IsSettled : Option ℕ → ℕ → Slot → TypeSet → Type 0
IsSettled free n y t =
    (line : ℕ) → slot_fault (may_lack free (place n y line)) (listed t) line ≡ None

not_both : (b : Bool) → b && false ≡ false
not_both true = refl
not_both false = refl

pub local_lacks : (free : Option ℕ) (n : ℕ) (x : List ℕ) (line : ℕ)
    → may_lack free (place n (slot.Local x) line) ≡ false
local_lacks None n x line = refl
local_lacks (Some j) n x line = not_both (j == n)

same_fault : (b : Bool) (ts : List Ty) (l m : ℕ) → slot_fault b ts l ≡ None
    → slot_fault b ts m ≡ None
same_fault true [] l m h = refl
same_fault false [] l m h = cc
same_fault b (a ∷ []) l m h = refl
same_fault b (a ∷ c ∷ ts) l m h = cc

-- whatever its line is
any_line : (free : Option ℕ) (n : ℕ) (y : Slot) (ts : List Ty) (l m : ℕ)
    → slot_fault (may_lack free (place n y l)) ts l ≡ None
    → slot_fault (may_lack free (place n y m)) ts m ≡ None
any_line None n y ts l m h = same_fault false ts l m h
any_line (Some j) n y ts l m h = same_fault (same_place j slot.Result n y) ts l m h

pub neither : (a b : Option TypeError) → a ≡ None → b ≡ None → or_fault a b ≡ None
neither a b h k = (λ i. or_fault (h i) b) ∙ k

either_true : (a b : Bool) (P : Type 0) → a || b ≡ true → (a ≡ true → P) → (b ≡ true → P) → P
either_true true b P h f k = f refl
either_true false b P h f k = k h

or_true : (a b : Bool) → b ≡ true → a || b ≡ true
or_true true b h = refl
or_true false b h = h

module _ (free : Option ℕ) (F : FactSet) where
  abbrev own_fault : Place → Option TypeError
  own_fault s = slot_fault (may_lack free s) (listed (F s.func s.slot)) s.line

  faults_left : (ss ts : List Place) → slots_fault free F (ss ++ ts) ≡ None
      → slots_fault free F ss ≡ None
  faults_left [] ts h = refl
  faults_left (s ∷ ss) ts h =
      let both = none_both (own_fault s) (slots_fault free F (ss ++ ts)) h in
      neither (own_fault s) (slots_fault free F ss) both.0 (faults_left ss ts both.1)

  faults_right : (ss ts : List Place) → slots_fault free F (ss ++ ts) ≡ None
      → slots_fault free F ts ≡ None
  faults_right [] ts h = h
  faults_right (s ∷ ss) ts h =
      faults_right ss ts (none_both (own_fault s) (slots_fault free F (ss ++ ts)) h).1

  faults_both : (ss ts : List Place) → slots_fault free F ss ≡ None → slots_fault free F ts ≡ None
      → slots_fault free F (ss ++ ts) ≡ None
  faults_both [] ts h k = k
  faults_both (s ∷ ss) ts h k =
      let both = none_both (own_fault s) (slots_fault free F ss) h in
      neither (own_fault s) (slots_fault free F (ss ++ ts)) both.0 (faults_both ss ts both.1 k)

  -- the slots of the functions from the number n on
  abbrev pub SettledFrom : ℕ → List Routine → Type 0
  SettledFrom n [] = ⊤
  SettledFrom n (r ∷ rs) =
      ((y : Slot) → is_slot r y ≡ true → IsSettled free n y (F n y)) × SettledFrom (n + 1) rs

  names_settled : (n : ℕ) (r : Routine) (xs : List (List ℕ))
      → slots_fault free F (map (λ x. place n (slot.Local x) (local_line r x)) xs) ≡ None
      → (x : List ℕ) → is_among xs x ≡ true
      → IsSettled free n (slot.Local x) (F n (slot.Local x))
  names_settled n r [] h x k = cc
  names_settled n r (z ∷ xs) h x k =
      let at = λ (w : List ℕ). place n (slot.Local w) (local_line r w) in
      let both = none_both (own_fault (at z)) (slots_fault free F (map at xs)) h in
      either_true (same_bytes x z) (is_among xs x)
      (IsSettled free n (slot.Local x) (F n (slot.Local x))) k
      (λ same line.
      any_line free n (slot.Local x) (listed (F n (slot.Local x))) (local_line r z) line
      (ap (λ w. own_fault (place n (slot.Local w) (local_line r z)))
      ((bytes_decides x z).0 same) ∙ both.0))
      (names_settled n r xs both.1 x)

  slot_settled : (n : ℕ) (r : Routine) → slots_fault free F (routine_slots n r) ≡ None → (y : Slot)
      → is_slot r y ≡ true → IsSettled free n y (F n y)
  slot_settled n r h (slot.Local x) k =
      let names = map (λ z. place n (slot.Local z) (local_line r z)) (locals r) in
      names_settled n r (locals r) (faults_left names (place n slot.Result r.line ∷ []) h) x k
  slot_settled n r h slot.Result k =
      let names = map (λ z. place n (slot.Local z) (local_line r z)) (locals r) in
      let result = place n slot.Result r.line in
      let last = faults_right names (result ∷ []) h in
      λ line. any_line free n slot.Result (listed (F n slot.Result)) r.line line
      (none_both (own_fault result) None last).0

  pub settled_from : (n : ℕ) (rs : List Routine) → slots_fault free F (slots_from n rs) ≡ None
      → SettledFrom n rs
  settled_from n [] h = tt
  settled_from n (r ∷ rs) h =
      let here = routine_slots n r in
      let later = slots_from (n + 1) rs in (
        slot_settled n r (faults_left here later h),
        settled_from (n + 1) rs (faults_right here later h),
      )

  names_faultless : (n : ℕ) (r : Routine) (xs : List (List ℕ))
      → ((x : List ℕ) → is_among xs x ≡ true
      → IsSettled free n (slot.Local x) (F n (slot.Local x)))
      → slots_fault free F (map (λ x. place n (slot.Local x) (local_line r x)) xs) ≡ None
  names_faultless n r [] h = refl
  names_faultless n r (z ∷ xs) h =
      let at = λ (w : List ℕ). place n (slot.Local w) (local_line r w) in
      neither (own_fault (at z)) (slots_fault free F (map at xs))
      (h z (ap (λ b. b || is_among xs z) ((bytes_decides z z).1 refl)) (local_line r z))
      (names_faultless n r xs (λ x k. h x (or_true (same_bytes x z) (is_among xs x) k)))

  pub faultless_from : (n : ℕ) (rs : List Routine) → SettledFrom n rs
      → slots_fault free F (slots_from n rs) ≡ None
  faultless_from n [] h = refl
  faultless_from n (r ∷ rs) h =
      let names = map (λ z. place n (slot.Local z) (local_line r z)) (locals r) in
      let result = place n slot.Result r.line in
      faults_both (routine_slots n r) (slots_from (n + 1) rs)
      (faults_both names (result ∷ [])
      (names_faultless n r (locals r) (λ x k. h.0 (slot.Local x) k))
      (neither (own_fault result) None (h.0 slot.Result refl r.line) refl))
      (faultless_from (n + 1) rs h.1)

  pub settled_alike : (n : ℕ) (rs qs : List Routine) → SameHeads rs qs → SettledFrom n rs
      → SettledFrom n qs
  settled_alike n [] [] h k = tt
  settled_alike n [] (q ∷ qs) h k = absurd h
  settled_alike n (r ∷ rs) [] h k = absurd h
  settled_alike n (r ∷ rs) (q ∷ qs) h k = (
    λ y there. k.0 y (sym (same_slots r q h.0 y) ∙ there),
    settled_alike (n + 1) rs qs h.1 k.1,
  )

module _ (F : FactSet) where
  -- no other name has a type
  abbrev pub AloneFrom : ℕ → List Routine → Type 0
  AloneFrom n [] = ⊤
  AloneFrom n (r ∷ rs) =
      ((x : List ℕ) → is_among (locals r) x ≡ false → F n (slot.Local x) ≡ no_types)
      × AloneFrom (n + 1) rs

  pub alone_alike : (n : ℕ) (rs qs : List Routine) → SameHeads rs qs → AloneFrom n rs
      → AloneFrom n qs
  alone_alike n [] [] h k = tt
  alone_alike n [] (q ∷ qs) h k = absurd h
  alone_alike n (r ∷ rs) [] h k = absurd h
  alone_alike n (r ∷ rs) (q ∷ qs) h k = (
    λ x none. k.0 x (sym (same_slots r q h.0 (slot.Local x)) ∙ none),
    alone_alike (n + 1) rs qs h.1 k.1,
  )

-- facts about the slots of a program
module _ (s : List Routine) where
  abbrev Stands : Fact → Type 0
  Stands f = stands_in f.func f.slot 0 s ≡ true

  not_about : (f : Fact) (T : List Fact) (i : ℕ) (x : List ℕ) (b : Bool)
      → same_place f.func f.slot i (slot.Local x) ≡ b → Stands f
      → stands_in i (slot.Local x) 0 s ≡ false → set_of T i (slot.Local x) ≡ no_types
      → (if b then join (just f.ty) (set_of T i (slot.Local x)) else set_of T i (slot.Local x))
      ≡ no_types
  not_about f T i x true e stands none rest =
      let is =
      at_place (λ j z. stands_in j z 0 s ≡ true) f.func f.slot i (slot.Local x) e stands in
      let never : true ≡ false = sym is ∙ none in
      cc
  not_about f T i x false e stands none rest = rest

  no_fact : (T : List Fact) (i : ℕ) (x : List ℕ) → All (IsOfSlot s) T
      → stands_in i (slot.Local x) 0 s ≡ false → set_of T i (slot.Local x) ≡ no_types
  no_fact [] i x a none = refl
  no_fact (f ∷ T) i x a none =
      not_about f T i x (same_place f.func f.slot i (slot.Local x)) refl
      (sym (there f.func f.slot 0 s) ∙ All-head (IsOfSlot s) f T a) none
      (no_fact T i x (All-tail (IsOfSlot s) f T a) none)

  -- a later function has other slots
  before : (j : ℕ) (y : Slot) (n : ℕ) (rs : List Routine) → j < n → stands_in j y n rs ≡ false
  before j y n [] h = refl
  before j y n (r ∷ rs) h =
      let other : (j == n) ≡ false = ne_eqb j n (λ e. omega (arith, e, h)) in
      let rest = before j y (n + 1) rs (omega (arith, h)) in
      λ i. other i && is_slot r y || rest i

  alone_from : (T : List Fact) → All (IsOfSlot s) T → (n : ℕ) (rs : List Routine)
      → ((j : ℕ) (y : Slot) → n ≤ j → stands_in j y 0 s ≡ stands_in j y n rs)
      → AloneFrom (set_of T) n rs
  alone_from T a n [] h = tt
  alone_from T a n (r ∷ rs) h = (
    λ x none.
        let rest = before n (slot.Local x) (n + 1) rs (omega arith) in
        no_fact T n x a (h n (slot.Local x) (omega arith)
        ∙ (λ i. eq-eqb n n refl i && none i || rest i)),
    alone_from T a (n + 1) rs (λ j y le.
        let other : (j == n) ≡ false = ne_eqb j n (λ e. omega (arith, e, le)) in
        h j y (omega (arith, le)) ∙ (λ i. other i && is_slot r y || stands_in j y (n + 1) rs)),
  )

  pub alone : (T : List Fact) → All (IsOfSlot s) T → AloneFrom (set_of T) 0 s
  alone T a = alone_from T a 0 s (λ j y le. refl)
