-- From tables to the lanes of inputs.
use Rattle.std.proofs.Common.{◌≡◌, ℕ, zero, suc, ◌<◌, ◌≤◌, ◌^◌, ◌==◌, ◌∙◌, Bool, true, false, ◌||◌, List, [], ◌∷◌, Option, Some, None, sym, ap, subst, arith, refl, length, take}
use lib.Count.{trailing_of_zero}
use Rattle.std.specs.Prelude.{MatchOption, is_some, slice_get}
use Rattle.std.specs.List.{list_any}
use Rattle.std.specs.Int.{trailing_zeros, w64}
use Rattle.std.proofs.lemmas.Bool.{true≢false}
use Rattle.std.proofs.lemmas.List.Folds.{list_any_none}
use Rattle.std.proofs.lemmas.Nat.Bits.{bit_at-trailing_zeros, bit_at-zero}
use Rattle.std.proofs.lemmas.Option.{slice_get_within}
use Rattle.mpy_tree.specs.declared.value.Value.{Value}
use Rattle.mpy_tree.specs.Outcomes.{is_done}
use Rattle.mpy_tree.specs.Syntax.{Routine}
use Rattle.bounds_reader.specs.declared.bounds.Bounds.{Bounds}
use Rattle.bit_lanes.specs.Lane.{lane_bit, reads_table, truths_of_lane}
use Rattle.bit_lanes.specs.LaneLaws.{LanesAreNumbers}
use Rattle.input_space.specs.Agreement.{EndsAlike, EndsSomewhere, ends_on}
use Rattle.input_space.specs.Inputs.{inputs}
use Rattle.test_picker.specs.Comparing.{TellsFailure}
use Rattle.test_picker.specs.Failing.{IsFirstFailure}
use Rattle.test_picker.specs.Findings.{ends_on_some}
use Rattle.test_picker.specs.LaneInputs.{IsFirstLane}
use Rattle.test_picker.proofs.Places.{all_by, contains_at, of_take, place_of, there}

-- THE FIRST LANE

pub none_true : (table many : ℕ) → table < 2 ^ 64 → many ≤ trailing_zeros w64 table → (lane : ℕ)
    → lane < many → lane_bit table lane ≡ false
none_true zero many small past lane below = ap (λ d. d == 1) (bit_at-zero lane)
none_true (suc n) many small past lane below =
    let low = bit_at-trailing_zeros w64 (suc n) (omega arith) small in
    ap (λ d. d == 1) (low.2 lane (omega (arith, below, past)))

pub first_true : (table many : ℕ) → table < 2 ^ 64 → many ≤ 64 → trailing_zeros w64 table < many
    → IsFirstLane table many (trailing_zeros w64 table)
first_true zero many small few below =
    let all : trailing_zeros w64 0 ≡ 64 = trailing_of_zero 64 in absurd (omega (arith, all, few, below))
first_true (suc n) many small few below =
    let low = bit_at-trailing_zeros w64 (suc n) (omega arith) small in
    record {
      within = below;
      here = ap (λ d. d == 1) low.1;
      before = λ k h. ap (λ d. d == 1) (low.2 k h);
    }

-- the reading under the truth values of a lane
pub in_lane : LanesAreNumbers → (table lane : ℕ) → lane < 64
    → reads_table (truths_of_lane lane) table ≡ lane_bit table lane
in_lane law table lane h = ap (lane_bit table) (law lane h)

-- FAILING

-- a table tells of each input whether the program fails on it
abbrev pub TellsOf : Bounds → List Routine → List Routine → List (List Value) → ℕ → Type 0
TellsOf b r p xs table =
    (lane : ℕ) (x : List Value) → slice_get xs lane ≡ Some x
    → TellsFailure (lane_bit table lane) (ends_on b r x) (ends_on b p x)

module _ (b : Bounds) (r p : List Routine) (xs : List (List Value)) (table : ℕ)
    (tells : TellsOf b r p xs table) where
  not_failing : (i : ℕ) (x : List Value) → slice_get xs i ≡ Some x → lane_bit table i ≡ false
      → EndsAlike b r p x
  not_failing i x e is =
      subst (λ t. TellsFailure t (ends_on b r x) (ends_on b p x)) is (tells i x e)

  pub failure_in : (o : Option ℕ)
      → MatchOption o ((lane : ℕ) → lane < length xs → lane_bit table lane ≡ false)
      (IsFirstLane table (length xs)) → IsFirstFailure b r p xs o
  failure_in None h =
      all_by (EndsAlike b r p) xs (λ i x e. not_failing i x e (h i (slice_get_within xs i x e)))
  failure_in (Some lane) h =
      let at = there xs lane h.within in
      record {
        input = at.0;
        stands = at.1;
        fails = subst (λ t. TellsFailure t (ends_on b r at.0) (ends_on b p at.0)) h.here
            (tells lane at.0 at.1);
        before = all_by (EndsAlike b r p) (take lane xs) (λ i x e.
            let inside = of_take xs i lane x e in
            not_failing i x inside.1 (h.before i inside.0));
      }

-- ENDING

any_at : {X : Type 0} (p : X → Bool) (xs : List X) (i : ℕ) (x : X) → slice_get xs i ≡ Some x
    → p x ≡ true → list_any p xs ≡ true
any_at p [] i x e h = cc
any_at p (z ∷ xs) zero x e h =
    let same : z ≡ x = cc in ap (λ t. t || list_any p xs) (ap p same ∙ h)
any_at p (z ∷ xs) (suc i) x e h =
    ap (λ t. p z || t) (any_at p xs i x e h) ∙ or_true (p z)
  where
    or_true : (t : Bool) → (t || true) ≡ true
    or_true true = refl
    or_true false = refl

pub ends_if : (b : Bounds) (r : List Routine) (xs : List (List Value)) (table : ℕ)
    → ((lane : ℕ) (x : List Value) → slice_get xs lane ≡ Some x
    → lane_bit table lane ≡ is_done (ends_on b r x)) → (o : Option ℕ)
    → MatchOption o ((lane : ℕ) → lane < length xs → lane_bit table lane ≡ false)
    (IsFirstLane table (length xs)) → is_some o ≡ ends_on_some b r xs
ends_if b r xs table tells None h =
    sym (list_any_none (λ x. is_done (ends_on b r x)) xs
    (all_by (λ x. is_done (ends_on b r x) ≡ false) xs
    (λ i x e. sym (tells i x e) ∙ h i (slice_get_within xs i x e))))
ends_if b r xs table tells (Some lane) h =
    let at = there xs lane h.within in
    sym (any_at (λ x. is_done (ends_on b r x)) xs lane at.0 at.1 (sym (tells lane at.0 at.1) ∙ h.here))

-- an input on which it ends
record Ended (b : Bounds) (r : List Routine) (xs : List (List Value)) : Type 0 where
  place : ℕ
  input : List Value
  at : slice_get xs place ≡ Some input
  done : is_done (ends_on b r input) ≡ true

by_head : (b : Bounds) (r : List Routine) (x : List Value) (xs : List (List Value)) (t : Bool)
    → is_done (ends_on b r x) ≡ t → (ends_on_some b r xs ≡ true → Ended b r xs)
    → (t || ends_on_some b r xs) ≡ true → Ended b r (x ∷ xs)
by_head b r x xs true h rest e = record { place = 0; input = x; at = refl; done = h }
by_head b r x xs false h rest e =
    let found = rest e in
    record { place = suc found.place; input = found.input; at = found.at; done = found.done }

ended_at : (b : Bounds) (r : List Routine) (xs : List (List Value)) → ends_on_some b r xs ≡ true
    → Ended b r xs
ended_at b r [] e = absurd (true≢false (sym e))
ended_at b r (x ∷ xs) e = by_head b r x xs (is_done (ends_on b r x)) refl (ended_at b r xs) e

pub somewhere : (b : Bounds) (r : List Routine) → ends_on_some b r (inputs b.params) ≡ true
    → EndsSomewhere b r
somewhere b r e =
    let found = ended_at b r (inputs b.params) e in
    record {
      input = found.input;
      is_input = contains_at (inputs b.params) found.place found.input found.at;
      done = found.done;
    }

pub nowhere : (b : Bounds) (r : List Routine) → ends_on_some b r (inputs b.params) ≡ false
    → EndsSomewhere b r → ⊥
nowhere b r e ends =
    true≢false (sym (any_at (λ x. is_done (ends_on b r x)) (inputs b.params) ends.is_input.0 ends.input
    (place_of (inputs b.params) ends.input ends.is_input) ends.done) ∙ e)
