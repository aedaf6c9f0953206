-- Values that have the types of others and fit, one after another.
use Rattle.std.proofs.Common.{◌≡◌, ◌∙◌, ℕ, ◌+◌, ◌&&◌, Bool, true, false, List, [], ◌∷◌, ◌++◌, Some, map, take, refl, sym, ap, subst, slice_get}
use Rattle.std.proofs.lemmas.Bool.{and_parts}
use Rattle.std.proofs.lemmas.List.{map_push}
use Rattle.mpy_tree.specs.declared.limits.Limits.{Limits}
use Rattle.mpy_tree.specs.declared.typing.Ty.{Ty}
use Rattle.mpy_tree.specs.declared.value.Value.{Value}
use Rattle.mpy_tree.specs.declared.value.Value.TheVariants as val
use Rattle.mpy_tree.specs.Fitting.{all_fit_as, fits_as, type_of, value_fits}
use Rattle.sym_values.proofs.Held.{take_read}
use Rattle.input_space.specs.declared.case.Case.{Case}
use Rattle.bit_lanes.specs.LaneCases.{first_types}

both_hold : (a b : Bool) → a ≡ true → b ≡ true → (a && b) ≡ true
both_hold true b h k = k
both_hold false b h k = absurd cc

own_type : (l : Limits) (v : Value) → value_fits l v ≡ true → fits_as l (type_of v) v ≡ true
own_type l (val.Int z) h = h
own_type l (val.Bool b) h = h
own_type l (val.List zs) h = h
own_type l (val.Text cs) h = h

fit_push : (l : Limits) (ts : List Ty) (vs : List Value) (t : Ty) (v : Value) → all_fit_as l ts vs ≡ true → fits_as l t v ≡ true
    → all_fit_as l (ts ++ t ∷ []) (vs ++ v ∷ []) ≡ true
fit_push l [] [] t v h k = both_hold (fits_as l t v) true k refl
fit_push l [] (w ∷ vs) t v h k = absurd cc
fit_push l (u ∷ ts) [] t v h k = absurd cc
fit_push l (u ∷ ts) (w ∷ vs) t v h k =
    let both = and_parts (fits_as l u w) (all_fit_as l ts vs) h in
    both_hold (fits_as l u w) (all_fit_as l (ts ++ t ∷ []) (vs ++ v ∷ [])) both.0 (fit_push l ts vs t v both.1 k)

-- one value more
pub fit_more : (l : Limits) (first vs : List Value) (i : ℕ) (a v : Value) → slice_get first i ≡ Some a → slice_get vs i ≡ Some v
    → type_of a ≡ type_of v → value_fits l v ≡ true
    → all_fit_as l (map type_of (take i first)) (take i vs) ≡ true → all_fit_as l (map type_of (take (i + 1) first)) (take (i + 1) vs) ≡ true
fit_more l first vs i a v e f same fit h =
    let t = type_of a in
    let here : fits_as l t v ≡ true = subst (λ (u : Ty). fits_as l u v ≡ true) (sym same) (own_type l v fit) in
    let pushed = fit_push l (map type_of (take i first)) (take i vs) t v h here in
    let types : map type_of (take (i + 1) first) ≡ map type_of (take i first) ++ t ∷ [] = ap (map type_of) (take_read first i a e) ∙ map_push type_of (take i first) a in
    rw (types, take_read vs i v f) pushed

-- the types of the first case
pub first_types_at : (cases : List Case) (c : Case) → slice_get cases 0 ≡ Some c → map type_of c.values ≡ first_types cases
first_types_at [] c e = absurd cc
first_types_at (d ∷ cs) c e = let same : c ≡ d = cc in ap (λ (x : Case). map type_of x.values) same
