-- The values of columns, and what tables of their digits read as.
use Rattle.std.proofs.Common.{◌≡◌, ℕ, zero, suc, ◌+◌, ◌-◌, ◌<◌, ◌≤◌, ◌^◌, Bool, true, false, List, [], ◌∷◌, ◌++◌, All, Some, map, length, get_or, refl, sym, ap, ◌∙◌, subst, arith, slice_get, min, Option, None}
use Rattle.std.specs.Prelude.{ℤ, pos, nat_le}
use Rattle.std.specs.List.{list_all}
use Rattle.std.proofs.lemmas.Bool.{and_parts}
use Rattle.std.proofs.lemmas.List.{map_push}
use Rattle.std.proofs.lemmas.List.Elements.{All-cons, All-head, All-nil, All-tail}
use Rattle.std.proofs.lemmas.Option.{slice_get_within}
use Rattle.mpy_tree.specs.declared.limits.Limits.{Limits}
use Rattle.mpy_tree.specs.declared.typing.Ty.{Ty}
use Rattle.mpy_tree.specs.declared.typing.Ty.TheVariants as ty
use Rattle.mpy_tree.specs.declared.value.Value.{Value}
use Rattle.mpy_tree.specs.declared.value.Value.TheVariants as val
use Rattle.mpy_tree.specs.Fitting.{fits_as}
use Rattle.mpy_tree.specs.Operations.{below, fits}
use Rattle.mpy_tree.specs.Options.{◌>>=◌}
use Rattle.mpy_tree.specs.Printable.{ArePrintable}
use Rattle.input_space.specs.declared.case.Case.{Case}
use Rattle.bit_words.specs.Words.{int_of, nat_of}
use Rattle.sym_values.specs.declared.value.SymValue.TheVariants as sym_value
use Rattle.sym_values.specs.Constants.{padded}
use Rattle.sym_values.specs.Reading.{spelled, sure}
use Rattle.sym_values.proofs.Paddings.{all_at, list_read, padded_more, room_small, text_read, zero_fits}
use Rattle.bit_lanes.specs.Columns.{HasFitting, HasPrintable, IsColumn, head_of, item_of, value_in}
use Rattle.bit_lanes.specs.Digits.{digits_of, items_digits}
use Rattle.bit_lanes.specs.Lane.{lane_bit}
use Rattle.bit_lanes.specs.LaneCases.{case_in}
use Rattle.bit_lanes.proofs.DigitNumbers.{int_digits, nat_digits}

module _ (l : Limits) (t : Ty) (place : ℕ) where
  -- each case has a value at the place
  all_there : (cases : List Case) → All (HasFitting l t place) cases → All (λ c. place < length c.values) cases
  all_there [] h = All-nil (λ (c : Case). place < length c.values)
  all_there (c ∷ cs) h =
      let P = HasFitting l t place in
      let head = All-head P c cs h in
      All-cons (λ (d : Case). place < length d.values) c cs (slice_get_within c.values place head.value head.there) (all_there cs (All-tail P c cs h))

  -- the value of a case there fits
  fits_at : (cases : List Case) (i : ℕ) (c : Case) (v : Value) → All (HasFitting l t place) cases → slice_get cases i ≡ Some c
      → slice_get c.values place ≡ Some v → fits_as l t v ≡ true
  fits_at [] i c v h e f = absurd cc
  fits_at (d ∷ cs) zero c v h e f =
      let head = All-head (HasFitting l t place) d cs h in
      let there = head.there in
      let same : d ≡ c = cc in
      let is : head.value ≡ v = cc in
      subst (λ (w : Value). fits_as l t w ≡ true) is head.fit
  fits_at (d ∷ cs) (suc i) c v h e f = fits_at cs i c v (All-tail (HasFitting l t place) d cs h) e f

pub column_there : (l : Limits) (t : Ty) (cases : List Case) (place : ℕ) → IsColumn l t cases place → All (λ c. place < length c.values) cases
column_there l t cases place h = all_there l t place cases h.each

-- the value of a lane fits
pub lane_fits : (l : Limits) (t : Ty) (cases : List Case) (place lane : ℕ) (v : Value) → IsColumn l t cases place
    → value_in cases place lane ≡ Some v → fits_as l t v ≡ true
lane_fits l t cases place lane v h e = by_case (case_in cases lane) refl e
  where
    by_case : (o : Option Case) → case_in cases lane ≡ o → (o >>= λ c. slice_get c.values place) ≡ Some v → fits_as l t v ≡ true
    by_case None is e = absurd cc
    by_case (Some c) is e = fits_at l t place cases (min lane (length cases - 1)) c v h.each is e

-- what tables read as where they read as the digits of a value
module _ (l : Limits) where
  pub int_is : (v : Value) (w : List Bool) → fits_as l ty.Int v ≡ true → w ≡ digits_of l.width (head_of v) → sure (val.Int (int_of w)) ≡ sure v
  int_is (val.Int z) w e h =
      let some : 0 < l.width = let r = l.width_range.0 in omega arith in
      let few : l.width ≤ 32 = let r = l.width_range.1 in omega arith in
      ap (λ n. sure (val.Int n)) (ap int_of h ∙ int_digits l.width z some few e)
  int_is (val.Bool b) w e h = absurd cc
  int_is (val.List zs) w e h = absurd cc
  int_is (val.Text cs) w e h = absurd cc

  pub bool_is : (v : Value) (b : Bool) → fits_as l ty.Bool v ≡ true → b ≡ lane_bit (head_of v) 0 → sure (val.Bool b) ≡ sure v
  bool_is (val.Int z) b e h = absurd cc
  bool_is (val.Bool true) b e h = ap (λ d. sure (val.Bool d)) h
  bool_is (val.Bool false) b e h = ap (λ d. sure (val.Bool d)) h
  bool_is (val.List zs) b e h = absurd cc
  bool_is (val.Text cs) b e h = absurd cc

  -- the items of a list, and those of a text, padded with 0
  numbers_are : (k : ℕ) (zs : List ℤ) → list_all (fits l) zs ≡ true → map int_of (items_digits k l.width (val.List zs)) ≡ padded (pos 0) k zs
  numbers_are zero zs h = refl
  numbers_are (suc k) zs h =
      let f = λ (i : ℕ). digits_of l.width (item_of i (val.List zs)) in
      let some : 0 < l.width = let r = l.width_range.0 in omega arith in
      let few : l.width ≤ 32 = let r = l.width_range.1 in omega arith in
      let next : k + 1 ≡ suc k = omega arith in
      let here = int_digits l.width (get_or zs k (pos 0)) some few (all_at (fits l) (pos 0) zs k h (zero_fits l)) in
      ap (map int_of) (map_push f (below k) k) ∙ map_push int_of (map f (below k)) (f k)
      ∙ ap (λ ys. ys ++ int_of (f k) ∷ []) (numbers_are k zs h)
      ∙ ap (λ z. padded (pos 0) k zs ++ z ∷ []) here
      ∙ sym (ap (λ i. padded (pos 0) i zs) (sym next) ∙ padded_more (pos 0) k zs)

  pub list_is : (v : Value) (len : List Bool) (items : List (List Bool)) → fits_as l ty.List v ≡ true → len ≡ digits_of 5 (head_of v)
      → items ≡ items_digits l.cap l.width v → spelled (sym_value.List len items) ≡ sure v
  list_is (val.Int z) len items e h k = absurd cc
  list_is (val.Bool b) len items e h k = absurd cc
  list_is (val.List zs) len items e h k =
      let both = and_parts (nat_le (length zs) l.cap) (list_all (fits l) zs) e in
      list_read l len items zs (val.List zs) (ap nat_of h ∙ nat_digits 5 (length zs) (room_small l (length zs) both.0))
      (ap (map int_of) k ∙ numbers_are l.cap zs both.1) both.0 refl
  list_is (val.Text cs) len items e h k = absurd cc

small_at : (cs : List ℕ) (i : ℕ) → ArePrintable cs → get_or cs i 0 < 2 ^ 7
small_at [] i h = omega arith
small_at (c ∷ cs) zero h = let both = All-head (λ c. (32 ≤ c) × (c ≤ 126)) c cs h in omega (arith, both.1)
small_at (c ∷ cs) (suc i) h = small_at cs i (All-tail (λ c. (32 ≤ c) × (c ≤ 126)) c cs h)

characters_are : (k : ℕ) (cs : List ℕ) → ArePrintable cs → map nat_of (items_digits k 7 (val.Text cs)) ≡ padded 0 k cs
characters_are zero cs h = refl
characters_are (suc k) cs h =
    let f = λ (i : ℕ). digits_of 7 (item_of i (val.Text cs)) in
    let next : k + 1 ≡ suc k = omega arith in
    let here = nat_digits 7 (get_or cs k 0) (small_at cs k h) in
    ap (map nat_of) (map_push f (below k) k) ∙ map_push nat_of (map f (below k)) (f k)
    ∙ ap (λ ys. ys ++ nat_of (f k) ∷ []) (characters_are k cs h)
    ∙ ap (λ n. padded 0 k cs ++ n ∷ []) here
    ∙ sym (ap (λ i. padded 0 i cs) (sym next) ∙ padded_more 0 k cs)

pub text_is : (l : Limits) (v : Value) (len : List Bool) (items : List (List Bool)) → fits_as l ty.Text v ≡ true → HasPrintable v → len ≡ digits_of 5 (head_of v)
    → items ≡ items_digits l.cap 7 v → spelled (sym_value.Text len items) ≡ sure v
text_is l (val.Int z) len items e p h k = absurd cc
text_is l (val.Bool b) len items e p h k = absurd cc
text_is l (val.List zs) len items e p h k = absurd cc
text_is l (val.Text cs) len items e p h k =
    text_read l len items cs (val.Text cs) (ap nat_of h ∙ nat_digits 5 (length cs) (room_small l (length cs) e))
    (ap (map nat_of) k ∙ characters_are l.cap cs p) e refl
