-- A local that is set: what the state is then.
use Rattle.std.proofs.Common.{◌≡◌, ℕ, zero, suc, ◌<◌, Bool, true, false, cond, List, [], ◌∷◌, ◌++◌}
use Rattle.std.proofs.Common.{length, set, drop, get_or, Option, Some, None, refl, sym, ap, ◌∙◌}
use Rattle.std.proofs.Common.{arith}
use Rattle.std.specs.Prelude.{option_map, slice_get}
use Rattle.std.proofs.Math.Path.{fun_ext}
use Rattle.std.proofs.lemmas.Bool.{and_from, and_parts, both_ways}
use Rattle.std.proofs.lemmas.List.{drop-set-lt}
use Rattle.std.proofs.lemmas.Option.{slice_get-map, slice_get_within}
use Rattle.std.proofs.lemmas.List.Elements.{All-set}
use Rattle.std.proofs.lemmas.List.Quantifiers.{position-Some}
use Rattle.std.proofs.lemmas.Slice.Eq.{bytes_eq-Decides}
use Rattle.mpy_tree.specs.declared.typing.Ty.{Ty}
use Rattle.mpy_tree.specs.declared.value.Value.{Value}
use Rattle.mpy_tree.specs.Values.{State, assign, same_bytes, with_local}
use Rattle.bit_words.specs.Logic.{OwnsAll}
use Rattle.bit_words.specs.Later.{owns_both, owns_first, owns_second}
use Rattle.sym_values.specs.declared.value.SymValue.{SymValue}
use Rattle.sym_values.specs.Forms.{Form, bits_of, form_of, form_for, forms_of, values_bits}
use Rattle.sym_values.specs.Reading.{Reading, spelled, sure}
use Rattle.sym_paths.specs.Paths.{Way, Arrival, arrival, gone_way, reached, state_in, set_to}
use Rattle.sym_paths.specs.Paths.{are_proper, kept_on, kept_proper, printed_in}
use Rattle.mpy_tree.specs.Locals.{place_of}
use Rattle.sym_paths.specs.declared.slots.Slots.{Slots}
use Rattle.sym_paths.specs.Slots.{local_forms, print_forms, slot_forms, type_among, type_at}
use Rattle.sym_paths.proofs.Arrivals.{the_arrival, same_arrival, same_state}

-- the first place of a name among names
abbrev pub IsFirst : List (List ℕ) → List ℕ → ℕ → Type 0
IsFirst [] x k = ⊥
IsFirst (n ∷ ns) x zero = same_bytes x n ≡ true
IsFirst (n ∷ ns) x (suc k) = (same_bytes x n ≡ false) × IsFirst ns x k

same-is : (x y : List ℕ) → same_bytes x y ≡ true → x ≡ y
same-is x y = (bytes_eq-Decides x y).0

is-same : (x y : List ℕ) → x ≡ y → same_bytes x y ≡ true
is-same x y = (bytes_eq-Decides x y).1

at_name : (t : Bool) (v w rest : Option Value) → cond t v rest ≡ cond t v (cond t w rest)
at_name true v w rest = refl
at_name false v w rest = refl

at_other : (t u : Bool) (v w rest : Option Value) → (t ≡ true → u ≡ true → ⊥)
    → cond t w (cond u v rest) ≡ cond u v (cond t w rest)
at_other true true v w rest h = absurd (h refl refl)
at_other true false v w rest h = refl
at_other false true v w rest h = refl
at_other false false v w rest h = refl

set_at : (names : List (List ℕ)) (values : List (SymValue Bool)) (bits : List Bool) (x : List ℕ)
    (k : ℕ) (v : SymValue Bool) (y : List ℕ)
    → IsFirst names x k → k < length values → k < length bits
    → state_in names (set values k v) (set bits k true) y
    ≡ cond (same_bytes y x) (Some (spelled v).value) (state_in names values bits y)
set_at [] values bits x k v y h p q = absurd h
set_at (n ∷ ns) [] bits x k v y h p q = absurd (omega arith)
set_at (n ∷ ns) (w ∷ ws) [] x k v y h p q = absurd (omega arith)
set_at (n ∷ ns) (w ∷ ws) (b ∷ bs) x zero v y h p q =
    let e : x ≡ n = same-is x n h in
    let t : same_bytes y x ≡ same_bytes y n = ap (same_bytes y) e in
    let rest = state_in ns ws bs y in
    at_name (same_bytes y n) (Some (spelled v).value) (set_to b w) rest
    ∙ ap (λ i. cond i (Some (spelled v).value) (cond (same_bytes y n) (set_to b w) rest)) (sym t)
set_at (n ∷ ns) (w ∷ ws) (b ∷ bs) x (suc k) v y h p q =
    let rest = set_at ns ws bs x k v y h.1 (omega arith) (omega arith) in
    ap (cond (same_bytes y n) (set_to b w)) rest
    ∙ at_other (same_bytes y n) (same_bytes y x) (Some (spelled v).value) (set_to b w)
    (state_in ns ws bs y)
    (λ i j. both_ways (same_bytes x n) h.0
    (is-same x n (sym (same-is y x j) ∙ same-is y n i)))

-- the locals of which one has a value are those before with this one
set_is : (names : List (List ℕ)) (values : List (SymValue Bool)) (bits : List Bool) (x : List ℕ)
    (k : ℕ) (v : SymValue Bool)
    → IsFirst names x k → k < length values → k < length bits
    → state_in names (set values k v) (set bits k true)
    ≡ with_local (state_in names values bits) x (spelled v).value
set_is names values bits x k v h p q = fun_ext (λ y. set_at names values bits x k v y h p q)

-- values stay proper where a proper one is set
proper_set : (values : List (SymValue Bool)) (k : ℕ) (v : SymValue Bool)
    → are_proper values ≡ true → (spelled v).proper ≡ true → are_proper (set values k v) ≡ true
proper_set [] k v h p = refl
proper_set (w ∷ ws) zero v h p =
    and_from (spelled v).proper (are_proper ws) p
    (and_parts (spelled w).proper (are_proper ws) h).1
proper_set (w ∷ ws) (suc k) v h p =
    let parts = and_parts (spelled w).proper (are_proper ws) h in
    and_from (spelled w).proper (are_proper (set ws k v)) parts.0 (proper_set ws k v parts.1 p)

first_from : (names : List (List ℕ)) (x : List ℕ) (k : ℕ) → k < length names
    → same_bytes x (get_or names k []) ≡ true
    → ((j : ℕ) → j < k → same_bytes x (get_or names j []) ≡ false) → IsFirst names x k
first_from [] x k l h b = absurd (omega arith)
first_from (n ∷ ns) x zero l h b = h
first_from (n ∷ ns) x (suc k) l h b =
    (b 0 (omega arith), first_from ns x k (omega arith) h (λ j i. b (suc j) (omega arith)))

-- the place of a name is its first one
pub first_place : (names : List (List ℕ)) (x : List ℕ) (k : ℕ) → Some k ≡ place_of names x
    → IsFirst names x k
first_place names x k e =
    let p = position-Some (λ y. same_bytes x y) names k [] (sym e) in
    first_from names x k p.0 p.1 p.2

-- the type of a name stands at its place
typed_place : (names : List (List ℕ)) (types : List Ty) (x : List ℕ) (k : ℕ) (t : Ty)
    → Some k ≡ place_of names x → type_among names types x ≡ Some t → slice_get types k ≡ Some t
typed_place names types x k t h e = ap (type_at types) h ∙ e

-- a name with a type has a place
pub has_place : (names : List (List ℕ)) (types : List Ty) (x : List ℕ) (t : Ty)
    → None ≡ place_of names x → type_among names types x ≡ Some t → ⊥
has_place names types x t h e =
    let none : None ≡ Some t = ap (type_at types) h ∙ e in cc

-- a list with more behind it
get_front : {A : Type 0} (xs ys : List A) (k : ℕ) (a : A) → slice_get xs k ≡ Some a
    → slice_get (xs ++ ys) k ≡ Some a
get_front [] ys k a e = absurd cc
get_front (x ∷ xs) ys zero a e = e
get_front (x ∷ xs) ys (suc k) a e = get_front xs ys k a e

-- the place of a local is one of those that have types
pub place_within : (slots : Slots) (x : List ℕ) (k : ℕ) (t : Ty) → Some k ≡ place_of slots.names x
    → type_among slots.names slots.types x ≡ Some t → k < length slots.types
place_within slots x k t h e =
    slice_get_within slots.types k t (typed_place slots.names slots.types x k t h e)

-- the form of the value at a local's place
pub slot_form : (slots : Slots) (x : List ℕ) (k : ℕ) (t : Ty) (fs : List Form)
    → Some k ≡ place_of slots.names x → type_among slots.names slots.types x ≡ Some t
    → fs ≡ slot_forms slots → slice_get fs k ≡ Some (form_for slots.limits t)
slot_form slots x k t fs h e q =
    let form = form_for slots.limits in
    let local : slice_get (local_forms slots) k ≡ Some (form t) =
    slice_get-map form slots.types k
    ∙ ap (option_map form) (typed_place slots.names slots.types x k t h e) in
    ap (λ i. slice_get i k) q
    ∙ get_front (local_forms slots) (print_forms slots.limits slots.prints) k (form t) local

module _ {B : Type 0} where
  -- a value of the same form leaves the forms as they are
  pub forms_set : (values : List (SymValue B)) (k : ℕ) (v : SymValue B) (f : Form)
      → slice_get (forms_of values) k ≡ Some f → form_of v ≡ f
      → forms_of (set values k v) ≡ forms_of values
  forms_set [] k v f e h = refl
  forms_set (w ∷ ws) zero v f e h =
      let a : form_of w ≡ f = cc in ap (λ i. i ∷ forms_of ws) (h ∙ sym a)
  forms_set (w ∷ ws) (suc k) v f e h = ap (λ i. form_of w ∷ i) (forms_set ws k v f e h)

module _ {S B : Type 0} {owns : S → B → Type 0} where
  pub owns_set : {s : S} (values : List (SymValue B)) (k : ℕ) (v : SymValue B)
      → OwnsAll owns s (values_bits values) → OwnsAll owns s (bits_of v)
      → OwnsAll owns s (values_bits (set values k v))
  owns_set [] k v h o = h
  owns_set (w ∷ ws) zero v h o = owns_both o (owns_second (bits_of w) (values_bits ws) h)
  owns_set (w ∷ ws) (suc k) v h o = owns_both (owns_first (bits_of w) (values_bits ws) h)
      (owns_set ws k v (owns_second (bits_of w) (values_bits ws) h) o)

  pub owns_bit_set : {s : S} (bits : List B) (k : ℕ) (b : B) → OwnsAll owns s bits → owns s b
      → OwnsAll owns s (set bits k b)
  owns_bit_set {s} bits k b h o = record { each = All-set (owns s) bits k b o h.each }

-- a way on which a local is set
gone_set : (b : Bool) (p q : Arrival) (s t : State)
    → (b ≡ true → p.proper ≡ true → p.state ≡ s → (q.proper ≡ true) × (q.state ≡ t))
    → cond b (Some p) None ≡ reached (Some s) → cond b (Some q) None ≡ reached (Some t)
gone_set false p q s t h e = cc
gone_set true p q s t h e =
    let i : p ≡ the_arrival true s = cc in
    let both = h refl (ap (λ (a : Arrival). a.proper) i) (ap (λ (a : Arrival). a.state) i) in
    ap Some (same_arrival both.0 both.1)

pub set_way : (slots : Slots) (w : Way) (x : List ℕ) (k : ℕ) (v : SymValue Bool) (s : State)
    (u : Value) → IsFirst slots.names x k → k < length w.values → k < length w.set
    → k < length slots.types → spelled v ≡ sure u
    → gone_way slots (w ∷ []) ≡ reached (Some s)
    → gone_way slots
    (record { gone = w.gone; values = set w.values k v; set = set w.set k true } ∷ [])
    ≡ reached (Some (assign s x u))
set_way slots w x k v s u f p q r e at =
    let values = set w.values k v in
    let n = length slots.types in
    let new : Way = record { gone = w.gone; values = values; set = set w.set k true } in
    let kept : drop n values ≡ drop n w.values = drop-set-lt n w.values k v r in
    gone_set w.gone (arrival slots w) (arrival slots new) s (assign s x u)
    (λ b c d.
    let proper = and_parts (are_proper w.values) (kept_proper slots.limits (kept_on slots w)) c in (
      and_from (are_proper values) (kept_proper slots.limits (drop n values))
          (proper_set w.values k v proper.0 (ap (λ (i : Reading). i.proper) e))
          (ap (kept_proper slots.limits) kept ∙ proper.1),
      same_state
          (set_is slots.names w.values w.set x k v f p q
          ∙ ap (λ (i : State). with_local i.locals x (spelled v).value) d
          ∙ ap (λ (i : Reading). with_local s.locals x i.value) e)
          (ap (printed_in slots.limits) kept ∙ ap (λ (i : State). i.printed) d),
    ))
    at

gone_none : (b : Bool) (p q : Arrival) → cond b (Some p) None ≡ None → cond b (Some q) None ≡ None
gone_none false p q e = refl
gone_none true p q e = cc

pub set_none : (slots : Slots) (w : Way) (values : List (SymValue Bool)) (bits : List Bool)
    → gone_way slots (w ∷ []) ≡ None
    → gone_way slots (record { gone = w.gone; values = values; set = bits } ∷ []) ≡ None
set_none slots w values bits e = gone_none w.gone (arrival slots w) _ e
