-- Values of parameters, one by one, and what laid-out truth values read as.
use Rattle.std.proofs.Common.{◌≡◌, ◌∙◌, ℕ, zero, suc, ◌+◌, Bool, true, false, ◌&&◌, List, []}
use Rattle.std.proofs.Common.{◌∷◌, Option, Some, None, ap, drop, map, refl, sym, subst}
use Rattle.std.specs.Prelude.{if◌then◌else◌, option_map, slice_get}
use Rattle.std.specs.List.{list_all}
use Rattle.std.specs.Option.{option_map_or}
use Rattle.std.proofs.lemmas.Bool.{and_parts, and_right}
use Rattle.std.proofs.lemmas.List.{drop_more, drop-map}
use Rattle.std.proofs.lemmas.Option.{get_or_from_slice_get, slice_get_within}
use Rattle.mpy_tree.specs.declared.limits.Limits.{Limits}
use Rattle.mpy_tree.specs.declared.typing.Ty.{Ty}
use Rattle.mpy_tree.specs.declared.value.Value.{Value}
use Rattle.mpy_tree.specs.Options.{◌>>=◌}
use Rattle.bounds_reader.specs.declared.params.Param.{Param}
use Rattle.sym_values.specs.declared.value.SymValue.{SymValue}
use Rattle.sym_values.specs.Forms.{form_for, form_of, forms_of}
use Rattle.sym_values.specs.Reading.{Reading, spelled, sure}
use Rattle.input_bits.specs.Known.{is_right}
use Rattle.input_bits.specs.Layout.{all_laid_out, decoded, has_characters, laid_out}
use Rattle.input_space.specs.Inputs.{are_within, is_within, param_type}
use Rattle.input_space.specs.ValueBits.{bits_for, value_at, values_at}
use Rattle.query_build.specs.Inputs.{are_right}

-- ONE OF SEVERAL

-- the form of one value, and the range of one parameter
pub form_at : {B : Type 0} (l : Limits) (xs : List (SymValue B)) (ps : List Param) (i : ℕ)
    (x : SymValue B) (p : Param) → forms_of xs ≡ map (form_for l) (map param_type ps)
    → slice_get xs i ≡ Some x → slice_get ps i ≡ Some p → form_of x ≡ form_for l (param_type p)
form_at l [] ps i x p e at there = absurd cc
form_at l (a ∷ xs) [] i x p e at there = absurd cc
form_at l (a ∷ xs) (q ∷ ps) zero x p e at there = cc
form_at l (a ∷ xs) (q ∷ ps) (suc i) x p e at there =
    let tail : forms_of xs ≡ map (form_for l) (map param_type ps) = cc in
    form_at l xs ps i x p tail at there

pub tested_at : {A : Type 0} (test : A → Bool) (xs : List A) (i : ℕ) (x : A)
    → list_all test xs ≡ true → slice_get xs i ≡ Some x → test x ≡ true
tested_at test [] i x h e = absurd cc
tested_at test (y ∷ xs) zero x h e =
    let same : y ≡ x = cc in
    subst (λ z. test z ≡ true) same (and_parts (test y) (list_all test xs) h).0
tested_at test (y ∷ xs) (suc i) x h e =
    tested_at test xs i x (and_parts (test y) (list_all test xs) h).1 e

pub mapped_left : {A C : Type 0} (f : A → C) (xs : List A) (i : ℕ) (x : A)
    → slice_get xs i ≡ Some x → drop i (map f xs) ≡ f x ∷ drop (i + 1) (map f xs)
mapped_left f xs i x e =
    drop-map f i xs
    ∙ ap (map f) (drop_more xs i x (slice_get_within xs i x e)
    ∙ ap (λ y. y ∷ drop (i + 1) xs) (get_or_from_slice_get xs i x x e))
    ∙ ap (λ ys. f x ∷ ys) (sym (drop-map f (i + 1) xs))

and_group : (a b c : Bool) → (a && (b && c)) ≡ ((a && b) && c)
and_group true b c = refl
and_group false b c = refl

and_nothing : (b : Bool) → (b && true) ≡ b
and_nothing true = refl
and_nothing false = refl

-- one value more is right, and all are
pub right_more : (ps : List Param) (rs : List Reading) (i : ℕ) (p : Param) (r : Reading)
    (so_far : Bool) → drop i ps ≡ p ∷ drop (i + 1) ps → drop i rs ≡ r ∷ drop (i + 1) rs
    → (so_far && are_right (drop i ps) (drop i rs))
    ≡ ((so_far && is_right p r) && are_right (drop (i + 1) ps) (drop (i + 1) rs))
right_more ps rs i p r so_far e f =
    ap (λ xs. so_far && are_right xs (drop i rs)) e
    ∙ ap (λ xs. so_far && are_right (p ∷ drop (i + 1) ps) xs) f
    ∙ and_group so_far (is_right p r) (are_right (drop (i + 1) ps) (drop (i + 1) rs))

pub right_all : (ps : List Param) (rs : List Reading) (i : ℕ) (so_far : Bool) → drop i ps ≡ []
    → drop i rs ≡ [] → (so_far && are_right (drop i ps) (drop i rs)) ≡ so_far
right_all ps rs i so_far e f =
    ap (λ xs. so_far && are_right xs (drop i rs)) e ∙ ap (λ xs. so_far && are_right [] xs) f
    ∙ and_nothing so_far

-- LAID-OUT VALUES

-- the law of what is read
abbrev pub Decodes : Type 0
Decodes =
    (l : Limits) (t : Ty) (vs : List Bool) (start : ℕ)
    → decoded (spelled (laid_out l t vs start)) ≡ value_at l t vs start

one_right : (ps : List Param) (p : Param) (b right : Bool) (v : Value) (o : Option (List Value))
    → right ≡ option_map_or (are_within ps) o false
    → ((b && is_within p v) && right)
    ≡ option_map_or (are_within (p ∷ ps))
    ((if b then Some v else None) >>= λ x. option_map (λ rest. x ∷ rest) o) false
one_right ps p false right v o e = refl
one_right ps p true right v None e =
    ap (λ r. is_within p v && r) e ∙ and_right (is_within p v) false refl
one_right ps p true right v (Some xs) e = ap (λ r. is_within p v && r) e

pub laid_right : Decodes → (l : Limits) (vs : List Bool) (ps : List Param) (start : ℕ)
    → are_right ps (map spelled (all_laid_out l (map param_type ps) vs start))
    ≡ option_map_or (are_within ps) (values_at l (map param_type ps) vs start) false
laid_right law l vs [] start = refl
laid_right law l vs (p ∷ ps) start =
    let t = param_type p in
    let r = spelled (laid_out l t vs start) in
    let next = start + bits_for l t in
    let others = values_at l (map param_type ps) vs next in
    one_right ps p (r.proper && has_characters r.value) _ r.value others
    (laid_right law l vs ps next)
    ∙ ap (λ o. option_map_or (are_within (p ∷ ps))
    (o >>= λ x. option_map (λ rest. x ∷ rest) others) false) (law l t vs start)

sure_from : (proper characters : Bool) (u v : Value)
    → (if proper && characters then Some u else None) ≡ Some v
    → ◌≡◌ {A = Reading} (record { proper = proper; value = u }) (sure v)
sure_from true true u v e = let same : u ≡ v = cc in ap sure same
sure_from true false u v e = absurd cc
sure_from false characters u v e = absurd cc

-- a value before others
record Parted (o : Option Value) (others : Option (List Value)) (xs : List Value) : Type 0 where
  value : Value
  rest : List Value
  first : o ≡ Some value
  left : others ≡ Some rest
  all : xs ≡ value ∷ rest

parted : (o : Option Value) (others : Option (List Value)) (xs : List Value)
    → (o >>= λ x. option_map (λ rest. x ∷ rest) others) ≡ Some xs → Parted o others xs
parted None others xs e = absurd cc
parted (Some x) None xs e = absurd cc
parted (Some x) (Some rest) xs e =
    let same : x ∷ rest ≡ xs = cc in
    record { value = x; rest = rest; first = refl; left = refl; all = sym same }

pub laid_sure : Decodes → (l : Limits) (vs : List Bool) (ts : List Ty) (start : ℕ)
    (xs : List Value) → values_at l ts vs start ≡ Some xs
    → map spelled (all_laid_out l ts vs start) ≡ map sure xs
laid_sure law l vs [] start xs e = let same : [] ≡ xs = cc in ap (map sure) same
laid_sure law l vs (t ∷ ts) start xs e =
    let r = spelled (laid_out l t vs start) in
    let next = start + bits_for l t in
    let parts = parted (value_at l t vs start) (values_at l ts vs next) xs e in
    let head : r ≡ sure parts.value =
    sure_from r.proper (has_characters r.value) r.value parts.value
    (law l t vs start ∙ parts.first) in
    let tail = laid_sure law l vs ts next parts.rest parts.left in
    (λ i. head i ∷ tail i) ∙ ap (map sure) (sym parts.all)
