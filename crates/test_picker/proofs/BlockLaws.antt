-- Inputs of the order side by side, up to 64 of them.
use Rattle.std.proofs.Common.{◌≡◌, ℕ, ◌+◌, ◌-◌, ◌<◌, ◌≤◌, ◌∙◌, true, List, [], ◌∷◌, ◌++◌, Some, sym, ap, subst, arith, refl, inl, inr, min, map, length, take, drop, append_assoc, length-drop}
use Rattle.std.specs.Prelude.{All, slice_get}
use Rattle.std.specs.Option.{option_map}
use Rattle.std.proofs.Math.Seq.{take-add, take-length}
use Rattle.std.proofs.lemmas.List.{append_cancel_left, length-map, length-take, map_push, take_all}
use Rattle.std.proofs.lemmas.List.Elements.{All-contains_itself, All-cons, All-drop, All-nil, All-take}
use Rattle.std.proofs.lemmas.Option.{slice_get-map, slice_get_within}
use Rattle.mpy_tree.specs.declared.limits.Limits.{Limits}
use Rattle.mpy_tree.specs.declared.typing.Ty.{Ty}
use Rattle.mpy_tree.specs.declared.value.Value.{Value}
use Rattle.mpy_tree.specs.Fitting.{all_fit_as, type_of}
use Rattle.bounds_reader.specs.declared.bounds.Bounds.{Bounds}
use Rattle.bit_lanes.specs.Lane.{lane_of, truths_of_lane}
use Rattle.bit_lanes.specs.LaneCases.{AreTabled, FillLanes, ReadAsCases, first_types}
use Rattle.bit_lanes.specs.LaneLaws.{LanesAreNumbers}
use Rattle.bit_lanes.specs.declared.lanes.Lanes.{Lanes}
use Rattle.input_space.specs.declared.case.Case.{Case}
use Rattle.input_space.specs.Agreement.{IsInput}
use Rattle.input_space.specs.InputLaws.{InputsFit}
use Rattle.input_space.specs.Inputs.{inputs, param_type}
use Rattle.sym_values.specs.declared.value.SymValue.{SymValue}
use Rattle.sym_values.specs.Forms.{form_for}
use Rattle.sym_values.specs.Reading.{sure}
use Rattle.sym_values.proofs.Held.{take_read}
use Rattle.sym_nodes.specs.Operands.{IsTypedIn, ty_of}
use Rattle.sym_nodes.proofs.Typed.{type_is}
use Rattle.task_bits.specs.Tasks.{AreArgumentsOf}
use Rattle.task_bits.proofs.FirstValues.{fit_types}
use Rattle.test_picker.specs.LaneInputs.{Belongs, ReadInLanes}
use Rattle.test_picker.specs.Programs.{inputs_of}
use Rattle.test_picker.proofs.Places.{all_at, all_by, compared, there}

-- CASES

-- one case more, behind the inputs in front
pub one_more : (xs : List (List Value)) (first i : ℕ) (cs new : List Case) (c : Case)
    → take first xs ++ inputs_of cs ≡ take i xs → slice_get xs i ≡ Some c.values
    → new ≡ cs ++ c ∷ [] → take first xs ++ inputs_of new ≡ take (i + 1) xs
one_more xs first i cs new c so at is =
    ap (λ z. take first xs ++ inputs_of z) is
    ∙ ap (λ z. take first xs ++ z) (map_push (λ (d : Case). d.values) cs c)
    ∙ sym (append_assoc (take first xs) (inputs_of cs) (c.values ∷ []))
    ∙ ap (λ z. z ++ c.values ∷ []) so ∙ sym (take_read xs i c.values at)

same_end : (xs : List (List Value)) (first end : ℕ) → end ≡ min (length xs) (first + 64)
    → take end xs ≡ take (first + 64) xs
same_end xs first end e = elim (compared (first + 64) (length xs)) [
  | inl h ↦ let is : end ≡ first + 64 = omega (arith, e, h) in ap (λ n. take n xs) is
  | inr h ↦ past (elim h [ inl g ↦ omega (arith, g) | inr g ↦ omega (arith, g) ])
]
  where
    past : length xs ≤ first + 64 → take end xs ≡ take (first + 64) xs
    past h =
        let is : end ≡ length xs = omega (arith, e, h) in
        ap (λ n. take n xs) is ∙ take-length xs ∙ sym (take_all (first + 64) xs h)

-- up to 64 from a place on
pub all_from : (xs : List (List Value)) (first end : ℕ) (cs : List Case)
    → end ≡ min (length xs) (first + 64) → take first xs ++ inputs_of cs ≡ take end xs
    → inputs_of cs ≡ take 64 (drop first xs)
all_from xs first end cs e so =
    append_cancel_left (take first xs) (inputs_of cs) (take 64 (drop first xs))
    (so ∙ same_end xs first end e ∙ take-add first 64 xs)

pub few_from : (xs : List (List Value)) (first end : ℕ) (cs : List Case)
    → end ≡ min (length xs) (first + 64) → take first xs ++ inputs_of cs ≡ take end xs
    → length cs ≤ 64
few_from xs first end cs e so =
    let many : length (inputs_of cs) ≡ length cs = length-map cs (λ (c : Case). c.values) in
    let same = ap length (all_from xs first end cs e so) ∙ length-take 64 (drop first xs) in
    omega (arith, many, same)

pub block_is_some : (xs : List (List Value)) (first : ℕ) (cs : List Case) → first < length xs
    → inputs_of cs ≡ take 64 (drop first xs) → 0 < length cs
block_is_some xs first cs h is =
    let many : length (inputs_of cs) ≡ length cs = length-map cs (λ (c : Case). c.values) in
    let same = ap length is ∙ length-take 64 (drop first xs) in
    omega (arith, many, same, length-drop first xs, h)

pub block_is_few : (xs : List (List Value)) (first : ℕ) (cs : List Case)
    → inputs_of cs ≡ take 64 (drop first xs) → length cs ≤ 64
block_is_few xs first cs is =
    let many : length (inputs_of cs) ≡ length cs = length-map cs (λ (c : Case). c.values) in
    let same = ap length is ∙ length-take 64 (drop first xs) in
    omega (arith, many, same)

pub block_inputs : (b : Bounds) (first : ℕ) (cs : List Case)
    → inputs_of cs ≡ take 64 (drop first (inputs b.params)) → All (IsInput b) (inputs_of cs)
block_inputs b first cs is =
    subst (All (IsInput b)) (sym is)
    (All-take (IsInput b) 64 (drop first (inputs b.params))
    (All-drop (IsInput b) first (inputs b.params) (All-contains_itself (inputs b.params))))

-- ARGUMENTS

pub input_at : (cs : List Case) (i : ℕ) (c : Case) → slice_get cs i ≡ Some c
    → slice_get (inputs_of cs) i ≡ Some c.values
input_at cs i c e = slice_get-map (λ (d : Case). d.values) cs i ∙ ap (option_map (λ (d : Case). d.values)) e

pub fill : InputsFit → (b : Bounds) (cs : List Case) → 0 < length cs → length cs ≤ 64
    → All (IsInput b) (inputs_of cs) → FillLanes b.limits cs
fill law b [] some few all = absurd (omega (arith, some))
fill law b (c ∷ cs) some few all =
    let ts = map param_type b.params in
    let fits = λ (i : ℕ) (d : Case) (e : slice_get (c ∷ cs) i ≡ Some d).
    law b d.values (all_at (IsInput b) (inputs_of (c ∷ cs)) i d.values all (input_at (c ∷ cs) i d e)) in
    let types : map type_of c.values ≡ ts = fit_types b.limits ts c.values (fits 0 c refl) in
    record {
      some = some;
      few = few;
      fit = all_by (λ (d : Case). all_fit_as b.limits (map type_of c.values) d.values ≡ true) (c ∷ cs)
          (λ i d e. subst (λ us. all_fit_as b.limits us d.values ≡ true) (sym types) (fits i d e));
    }

pub types_are : InputsFit → (b : Bounds) (cs : List Case) → 0 < length cs
    → All (IsInput b) (inputs_of cs) → first_types cs ≡ map param_type b.params
types_are law b [] some all = absurd (omega (arith, some))
types_are law b (c ∷ cs) some all =
    let input = all_at (IsInput b) (inputs_of (c ∷ cs)) 0 c.values all refl in
    fit_types b.limits (map param_type b.params) c.values (law b c.values input)

tabled_each : (l : Limits) (s : Lanes) (xs : List (SymValue ℕ)) (ts : List Ty)
    → AreTabled l xs ts → All (IsTypedIn Belongs s l) xs
tabled_each l s [] ts h = All-nil (IsTypedIn Belongs s l)
tabled_each l s (x ∷ xs) [] h = absurd h
tabled_each l s (x ∷ xs) (t ∷ ts) h =
    let made = h.0 s in
    let typed : IsTypedIn Belongs s l x = record {
      owned = made.owned;
      form = made.form ∙ ap (form_for l) (sym (type_is l t x made.form));
    } in
    All-cons (IsTypedIn Belongs s l) x xs typed (tabled_each l s xs ts h.1)

tabled_types : (l : Limits) (s : Lanes) (xs : List (SymValue ℕ)) (ts : List Ty)
    → AreTabled l xs ts → map (λ x. ty_of x) xs ≡ ts
tabled_types l s [] [] h = refl
tabled_types l s [] (t ∷ ts) h = absurd h
tabled_types l s (x ∷ xs) [] h = absurd h
tabled_types l s (x ∷ xs) (t ∷ ts) h =
    let head = type_is l t x (h.0 s).form in
    let tail = tabled_types l s xs ts h.1 in
    λ i. head i ∷ tail i

pub arguments_made : (b : Bounds) (xs : List (SymValue ℕ)) (ts : List Ty)
    → AreTabled b.limits xs ts → ts ≡ map param_type b.params → (s : Lanes)
    → AreArgumentsOf Belongs s b xs
arguments_made b xs ts h is s = record {
  formed = record { each = tabled_each b.limits s xs ts h };
  typed = tabled_types b.limits s xs ts h ∙ is;
}

pub read_in_lanes : LanesAreNumbers → (cs : List Case) (args : List (SymValue ℕ))
    → length cs ≤ 64 → ReadAsCases cs args → ReadInLanes (inputs_of cs) args
read_in_lanes law cs args few reads =
    let many : length (inputs_of cs) ≡ length cs = length-map cs (λ (c : Case). c.values) in
    record {
      few = omega (arith, many, few);
      reads = λ lane x at.
          let within : lane < length (inputs_of cs) = slice_get_within (inputs_of cs) lane x at in
          let below : lane < length cs = omega (arith, within, many) in
          let here = there cs lane below in
          let same : Some x ≡ Some here.0.values = sym at ∙ input_at cs lane here.0 here.1 in
          let value : x ≡ here.0.values = cc in
          let number : lane_of 6 (truths_of_lane lane) ≡ lane = law lane (omega (arith, below, few)) in
          let place : min (lane_of 6 (truths_of_lane lane)) (length cs - 1) ≡ lane = omega (arith, number, below) in
          reads (truths_of_lane lane) here.0 (ap (slice_get cs) place ∙ here.1) ∙ ap (map sure) (sym value);
    }
