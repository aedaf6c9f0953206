-- The arguments of a case, value by value.
use Rattle.std.proofs.Common.{◌≡◌, ◌∙◌, ℕ, zero, suc, ◌+◌, ◌/◌, ◌%◌, Bool, true, false, ◌&&◌, List, [], ◌∷◌, length, map, drop, refl, ap, sym, arith, Some}
use Rattle.std.specs.Prelude.{slice_get}
use Rattle.std.proofs.lemmas.List.{length-map}
use Rattle.mpy_tree.specs.declared.value.Value.{Value}
use Rattle.bit_words.specs.Logic.{Keeps, OwnsAll}
use Rattle.bit_words.specs.Later.{owns_first, owns_second}
use Rattle.sym_values.specs.declared.value.SymValue.{SymValue}
use Rattle.sym_values.specs.Forms.{bits_of, values_bits}
use Rattle.sym_values.specs.Later.{value_later}
use Rattle.sym_values.specs.Reading.{Reading, read, spelled, sure}
use Rattle.input_bits.specs.declared.parts.Split.{Split}
use Rattle.input_bits.specs.Cases.{is_in_case, is_in_part}

-- values read as before in a later state
pub readings_later : {S B : Type 0} {owns : S → B → Type 0} {reads : S → List Bool → B → Bool} {s t : S} → Keeps owns reads s t
    → (xs : List (SymValue B)) → OwnsAll owns s (values_bits xs) → (vs : List Bool) → map (read (reads t vs)) xs ≡ map (read (reads s vs)) xs
readings_later p [] h vs = refl
readings_later {S} {B} {owns} {reads} {s} {t} p (x ∷ xs) h vs =
    let head : read (reads t vs) x ≡ read (reads s vs) x = ap spelled (value_later p x (owns_first (bits_of x) (values_bits xs) h) vs) in
    let tail : map (read (reads t vs)) xs ≡ map (read (reads s vs)) xs = readings_later p xs (owns_second (bits_of x) (values_bits xs) h) vs in
    cc

-- the value that one of several reads as
pub record ReadAt {A : Type 0} (r : A → Reading) (xs : List Value) (i : ℕ) (a : A) : Type 0 where
  pub value : Value
  pub left : drop i xs ≡ value ∷ drop (i + 1) xs
  pub is : r a ≡ sure value

pub read_at : {A : Type 0} (r : A → Reading) (values : List A) (xs : List Value) (i : ℕ) (a : A) → map r values ≡ map sure xs → slice_get values i ≡ Some a → ReadAt r xs i a
read_at r [] xs i a e at = absurd cc
read_at r (v ∷ values) [] i a e at = absurd cc
read_at r (v ∷ values) (x ∷ xs) zero a e at =
    let same : v ≡ a = cc in
    let one : r v ≡ sure x = cc in
    record { value = x; left = refl; is = sym (ap r same) ∙ one }
read_at r (v ∷ values) (x ∷ xs) (suc i) a e at =
    let rest : map r values ≡ map sure xs = cc in
    let found = read_at r values xs i a rest at in
    let step : suc i + 1 ≡ suc (i + 1) = omega arith in
    record { value = found.value; left = found.left ∙ ap (λ k. found.value ∷ drop k (x ∷ xs)) (sym step); is = found.is }

and_assoc : (a b c : Bool) → (a && (b && c)) ≡ ((a && b) && c)
and_assoc true b c = refl
and_assoc false b c = refl

-- one value more
pub case_step : (ss : List Split) (i rest : ℕ) (xs : List Value) (s : Split) (x : Value) (so_far : Bool) → drop i ss ≡ s ∷ drop (i + 1) ss → drop i xs ≡ x ∷ drop (i + 1) xs
    → (so_far && is_in_case (drop i ss) rest (drop i xs))
    ≡ ((so_far && is_in_part s (rest % s.parts) x) && is_in_case (drop (i + 1) ss) (rest / s.parts) (drop (i + 1) xs))
case_step ss i rest xs s x so_far e f =
    ap (λ l. so_far && is_in_case l rest (drop i xs)) e ∙ ap (λ l. so_far && is_in_case (s ∷ drop (i + 1) ss) rest l) f
    ∙ and_assoc so_far (is_in_part s (rest % s.parts) x) (is_in_case (drop (i + 1) ss) (rest / s.parts) (drop (i + 1) xs))

last : (b : Bool) → (b && true) ≡ b
last true = refl
last false = refl

-- all values
pub case_end : (ss : List Split) (i rest : ℕ) (xs : List Value) (so_far : Bool) → drop i ss ≡ [] → drop i xs ≡ [] → (so_far && is_in_case (drop i ss) rest (drop i xs)) ≡ so_far
case_end ss i rest xs so_far e f =
    ap (λ l. so_far && is_in_case l rest (drop i xs)) e ∙ ap (λ l. so_far && is_in_case [] rest l) f ∙ last so_far

pub as_many : {A : Type 0} (r : A → Reading) (values : List A) (xs : List Value) → map r values ≡ map sure xs → length xs ≡ length values
as_many r values xs e = sym (length-map xs sure) ∙ sym (ap length e) ∙ length-map values r
