-- The values at the first places of cases, one after another.
use Rattle.std.proofs.Common.{◌≡◌, ℕ, zero, suc, ◌+◌, Bool, true, List, [], ◌∷◌, ◌++◌, All, Some, map, length, take, refl, sym, ap, ◌∙◌, slice_get, subst}
use Rattle.std.proofs.lemmas.Bool.{and_parts}
use Rattle.std.proofs.lemmas.List.{map_push}
use Rattle.std.proofs.lemmas.List.Elements.{All-cons, All-head, All-nil, All-tail}
use Rattle.mpy_tree.specs.declared.limits.Limits.{Limits}
use Rattle.mpy_tree.specs.declared.typing.Ty.{Ty}
use Rattle.mpy_tree.specs.declared.value.Value.{Value}
use Rattle.mpy_tree.specs.Fitting.{all_fit_as, fits_as, type_of}
use Rattle.input_space.specs.declared.case.Case.{Case}
use Rattle.sym_values.specs.declared.value.SymValue.{SymValue}
use Rattle.sym_values.specs.Reading.{read, sure}
use Rattle.sym_values.proofs.Held.{take_read}
use Rattle.bit_lanes.specs.Columns.{HasFitting, IsColumn}
use Rattle.bit_lanes.specs.LaneCases.{AreTabled, FillLanes, IsTabled, first_types}

pub all_get : {A : Type 0} (P : A → Type 0) (xs : List A) (i : ℕ) (x : A) → All P xs → slice_get xs i ≡ Some x → P x
all_get P [] i x h e = absurd cc
all_get P (y ∷ xs) zero x h e = let same : y ≡ x = cc in subst P same (All-head P y xs h)
all_get P (y ∷ xs) (suc i) x h e = all_get P xs i x (All-tail P y xs h) e

-- a value among those that fit as values of types
fitting_at : (l : Limits) (ts : List Ty) (vs : List Value) (i : ℕ) (t : Ty) → all_fit_as l ts vs ≡ true → slice_get ts i ≡ Some t
    → (v : Value) × (slice_get vs i ≡ Some v) × (fits_as l t v ≡ true)
fitting_at l [] vs i t e is = absurd cc
fitting_at l (u ∷ ts) [] i t e is = absurd cc
fitting_at l (u ∷ ts) (v ∷ vs) zero t e is =
    let same : u ≡ t = cc in
    let both = and_parts (fits_as l u v) (all_fit_as l ts vs) e in
    (v, refl, subst (λ (w : Ty). fits_as l w v ≡ true) same both.0)
fitting_at l (u ∷ ts) (v ∷ vs) (suc i) t e is =
    fitting_at l ts vs i t (and_parts (fits_as l u v) (all_fit_as l ts vs) e).1 is

case_fitting : (l : Limits) (ts : List Ty) (place : ℕ) (t : Ty) (c : Case) → all_fit_as l ts c.values ≡ true → slice_get ts place ≡ Some t → HasFitting l t place c
case_fitting l ts place t c e is =
    let found = fitting_at l ts c.values place t e is in
    record { value = found.0; there = found.1; fit = found.2 }

all_fitting : (l : Limits) (ts : List Ty) (place : ℕ) (t : Ty) (cases : List Case) → All (λ c. all_fit_as l ts c.values ≡ true) cases
    → slice_get ts place ≡ Some t → All (HasFitting l t place) cases
all_fitting l ts place t [] h is = All-nil (HasFitting l t place)
all_fitting l ts place t (c ∷ cs) h is =
    let P = λ (d : Case). all_fit_as l ts d.values ≡ true in
    All-cons (HasFitting l t place) c cs (case_fitting l ts place t c (All-head P c cs h) is) (all_fitting l ts place t cs (All-tail P c cs h) is)

pub column_of : (l : Limits) (place : ℕ) (t : Ty) (cases : List Case) → FillLanes l cases → slice_get (first_types cases) place ≡ Some t → IsColumn l t cases place
column_of l place t cases h is = record { some = h.some; each = all_fitting l (first_types cases) place t cases h.fit is }

type_there : (vs : List Value) (i : ℕ) (v : Value) → slice_get vs i ≡ Some v → slice_get (map type_of vs) i ≡ Some (type_of v)
type_there [] i v e = absurd cc
type_there (w ∷ vs) zero v e = let same : w ≡ v = cc in ap (λ (u : Value). Some (type_of u)) same
type_there (w ∷ vs) (suc i) v e = type_there vs i v e

-- the type of a value of the first case
pub first_type : (cases : List Case) (c : Case) (place : ℕ) (v : Value) → slice_get cases 0 ≡ Some c → slice_get c.values place ≡ Some v
    → slice_get (first_types cases) place ≡ Some (type_of v)
first_type [] c place v e is = absurd cc
first_type (d ∷ cs) c place v e is =
    let same : c ≡ d = cc in
    let here : slice_get d.values place ≡ Some v = subst (λ (x : Case). slice_get x.values place ≡ Some v) same is in
    type_there d.values place v here

types_long : (vs : List Value) → length (map type_of vs) ≡ length vs
types_long [] = refl
types_long (v ∷ vs) = ap suc (types_long vs)

pub first_long : (cases : List Case) (c : Case) → slice_get cases 0 ≡ Some c → length (first_types cases) ≡ length c.values
first_long [] c e = absurd cc
first_long (d ∷ cs) c e = let same : d ≡ c = cc in types_long d.values ∙ ap (λ (x : Case). length x.values) same

fit_long : (l : Limits) (ts : List Ty) (vs : List Value) → all_fit_as l ts vs ≡ true → length vs ≡ length ts
fit_long l [] [] e = refl
fit_long l [] (v ∷ vs) e = absurd cc
fit_long l (t ∷ ts) [] e = absurd cc
fit_long l (t ∷ ts) (v ∷ vs) e = ap suc (fit_long l ts vs (and_parts (fits_as l t v) (all_fit_as l ts vs) e).1)

pub case_long : (l : Limits) (cases : List Case) (i : ℕ) (c : Case) → FillLanes l cases → slice_get cases i ≡ Some c → length c.values ≡ length (first_types cases)
case_long l cases i c h e =
    fit_long l (first_types cases) c.values (all_get (λ (d : Case). all_fit_as l (first_types cases) d.values ≡ true) cases i c h.fit e)

-- one value more of the forms of types
tabled_push : (l : Limits) (xs : List (SymValue ℕ)) (ts : List Ty) (x : SymValue ℕ) (t : Ty) → AreTabled l xs ts → IsTabled l x t → AreTabled l (xs ++ x ∷ []) (ts ++ t ∷ [])
tabled_push l [] [] x t h k = (k, tt)
tabled_push l [] (u ∷ ts) x t h k = absurd h
tabled_push l (y ∷ xs) [] x t h k = absurd h
tabled_push l (y ∷ xs) (u ∷ ts) x t h k = (h.0, tabled_push l xs ts x t h.1 k)

pub tabled_more : (l : Limits) (xs ys : List (SymValue ℕ)) (ts : List Ty) (i : ℕ) (x : SymValue ℕ) (t : Ty) → AreTabled l xs (take i ts) → IsTabled l x t
    → slice_get ts i ≡ Some t → ys ≡ xs ++ x ∷ [] → AreTabled l ys (take (i + 1) ts)
tabled_more l xs ys ts i x t h k is e =
    rw (take_read ts i t is) (subst (λ (zs : List (SymValue ℕ)). AreTabled l zs (take i ts ++ t ∷ [])) (sym e) (tabled_push l xs (take i ts) x t h k))

-- one value more that reads as the value of a lane's case
pub read_more : (rd : ℕ → Bool) (xs ys : List (SymValue ℕ)) (vs : List Value) (i : ℕ) (x : SymValue ℕ) (v : Value) → map (read rd) xs ≡ map sure (take i vs)
    → slice_get vs i ≡ Some v → read rd x ≡ sure v → ys ≡ xs ++ x ∷ [] → map (read rd) ys ≡ map sure (take (i + 1) vs)
read_more rd xs ys vs i x v h is here e =
    ap (map (read rd)) e ∙ map_push (read rd) xs x ∙ ap (λ zs. zs ++ read rd x ∷ []) h
    ∙ ap (λ z. map sure (take i vs) ++ z ∷ []) here
    ∙ sym (ap (map sure) (take_read vs i v is) ∙ map_push sure (take i vs) v)
