-- The table of how the reference ends, and what is looked up in it.
use Rattle.std.proofs.Common.{◌≡◌, ◌⊎◌, ℕ, ◌+◌, ◌<◌, ◌≤◌, List, [], ◌∷◌, ◌++◌, Some, length, map, take, sym, ap, subst, ◌∙◌, arith, slice_get, inl, inr, Bool, true, false}
use Rattle.std.specs.Prelude.{All, option_map}
use Rattle.std.specs.List.{Contains}
use Rattle.std.proofs.lemmas.Bool.{cases_lt}
use Rattle.std.proofs.lemmas.List.{length-map, map_more, take_all}
use Rattle.std.proofs.lemmas.Option.{get_or_from_slice_get, same_Some, slice_get-map, slice_get_within}
use Rattle.mpy_tree.specs.declared.outcome.Outcome.{Outcome}
use Rattle.mpy_tree.specs.declared.value.Value.{Value}
use Rattle.mpy_tree.specs.Outcomes.{is_done}
use Rattle.mpy_tree.specs.Syntax.{Routine}
use Rattle.input_space.specs.declared.case.Case.{Case}
use Rattle.input_space.specs.Inputs.{inputs}
use Rattle.input_space.specs.Tasks.{Task}
use Rattle.input_space.specs.TaskSpace.{Meets, case_of, is_wanted, wanted, wanted_inputs}
use Rattle.input_space.proofs.Elements.{all_if_contained, at_place, contained_at, contained_if, contained_map, contained_was, map_contains, none_if}
use Rattle.input_space.proofs.TaskSpaceLaws.{was_wanted}
use Rattle.list_questions.specs.declared.table.Expected.{Expected}
use Rattle.list_questions.specs.Asking.{ExpectedAt, IsExpected, IsFailing, NoneExpected, all_ends, wanted_on}

-- one input more
pub more_ends : (k : Task) (n : ℕ) (vs : List Value) → slice_get (inputs k.bounds.params) n ≡ Some vs
    → map (wanted k) (take (n + 1) (inputs k.bounds.params)) ≡ map (wanted k) (take n (inputs k.bounds.params)) ++ wanted k vs ∷ []
more_ends k n vs at =
    let xs = inputs k.bounds.params in
    map_more (wanted k) xs n vs (slice_get_within xs n vs at) ∙ ap (λ x. map (wanted k) (take n xs) ++ wanted k x ∷ []) (get_or_from_slice_get xs n vs vs at)

pub whole_table : (k : Task) (n : ℕ) → length (inputs k.bounds.params) ≤ n → map (wanted k) (take n (inputs k.bounds.params)) ≡ all_ends k
whole_table k n all = ap (map (wanted k)) (take_all n (inputs k.bounds.params) all)

-- what the table has at a place
pub looked_up : (k : Task) (table : List Outcome) (n : ℕ) (vs : List Value) (o : Outcome) → table ≡ all_ends k → slice_get (inputs k.bounds.params) n ≡ Some vs
    → slice_get table n ≡ Some o → wanted k vs ≡ o
looked_up k table n vs o is at found =
    same_Some (wanted k vs) o (sym (slice_get-map (wanted k) (inputs k.bounds.params) n ∙ ap (option_map (wanted k)) at) ∙ sym (ap (λ t. slice_get t n) is) ∙ found)

-- an input with a value is wanted
pub is_expected : (k : Task) (n : ℕ) (e : Expected) → ExpectedAt k n e → IsExpected k e
is_expected k n e at = record {
  input =
      contained_if (is_wanted k) (map case_of (inputs k.bounds.params)) e.case
      (map_contains case_of (inputs k.bounds.params) e.case.values (contained_at (inputs k.bounds.params) n e.case.values at.at))
      (ap is_done at.end_is ∙ at.done);
  end_is = at.end_is;
}

-- the place of a wanted input
pub wanted_at : (k : Task) (x : Case) → Contains (wanted_inputs k) x → (n : ℕ) × (slice_get (inputs k.bounds.params) n ≡ Some x.values)
wanted_at k x c =
    let was = contained_was (is_wanted k) (map case_of (inputs k.bounds.params)) x c in
    let from = contained_map case_of (inputs k.bounds.params) x was.0 in
    let at = at_place (inputs k.bounds.params) from.0 from.1 in
    (at.0, at.1 ∙ ap (λ (y : Case). Some y.values) from.2)

-- where there is no value up to the end there is no input
pub no_input : (k : Task) (n : ℕ) → length (inputs k.bounds.params) ≤ n → ((i : ℕ) → i < n → NoneExpected k i) → wanted_inputs k ≡ []
no_input k n all none = none_if (wanted_inputs k) (λ x c.
    let at = wanted_at k x c in
    let nothing = none at.0 (let w = slice_get_within (inputs k.bounds.params) at.0 x.values at.1 in omega arith) x.values at.1 in
    let some = was_wanted k x c in
    let both : ◌≡◌ {A = Bool} false true = sym nothing ∙ some in cc)

-- a program that meets the reference up to the end does on all inputs
pub meets_all : (k : Task) (p : List Routine) (n : ℕ) → length (inputs k.bounds.params) ≤ n
    → ((i : ℕ) (vs : List Value) → i < n → slice_get (inputs k.bounds.params) i ≡ Some vs → Meets k p (case_of vs))
    → All (Meets k p) (wanted_inputs k)
meets_all k p n all each = all_if_contained (Meets k p) (wanted_inputs k) (λ x c.
    let at = wanted_at k x c in
    each at.0 x.values (let w = slice_get_within (inputs k.bounds.params) at.0 x.values at.1 in omega arith) at.1)

eq_or_below : (j n : ℕ) → j < n + 1 → (j ≡ n) ⊎ (j < n)
eq_or_below j n below = elim (cases_lt j n) [ inl lower ↦ inr lower | inr higher ↦ inl (omega arith) ]

-- one place more
pub none_more : (k : Task) (n : ℕ) → ((i : ℕ) → i < n → NoneExpected k i) → NoneExpected k n → (i : ℕ) → i < n + 1 → NoneExpected k i
none_more k n before here i below = elim (eq_or_below i n below) [
  | inl same ↦ subst (NoneExpected k) (sym same) here
  | inr lower ↦ before i lower
]

pub met_more : (k : Task) (p : List Routine) (n : ℕ) → ((i : ℕ) (vs : List Value) → i < n → slice_get (inputs k.bounds.params) i ≡ Some vs → Meets k p (case_of vs))
    → ((vs : List Value) → slice_get (inputs k.bounds.params) n ≡ Some vs → Meets k p (case_of vs))
    → (i : ℕ) (vs : List Value) → i < n + 1 → slice_get (inputs k.bounds.params) i ≡ Some vs → Meets k p (case_of vs)
met_more k p n before here i vs below at = elim (eq_or_below i n below) [
  | inl same ↦ here vs (subst (λ j. slice_get (inputs k.bounds.params) j ≡ Some vs) same at)
  | inr lower ↦ before i vs lower at
]

-- what holds at a place
pub met_here : (k : Task) (p : List Routine) (n : ℕ) (e : Expected) → ExpectedAt k n e → Meets k p e.case
    → (vs : List Value) → slice_get (inputs k.bounds.params) n ≡ Some vs → Meets k p (case_of vs)
met_here k p n e at met vs here = subst (λ us. Meets k p (case_of us)) (same_Some e.case.values vs (sym at.at ∙ here)) met

pub met_none : (k : Task) (p : List Routine) (n : ℕ) → NoneExpected k n → (vs : List Value) → slice_get (inputs k.bounds.params) n ≡ Some vs → Meets k p (case_of vs)
met_none k p n none vs here done = absurd (let both : ◌≡◌ {A = Bool} false true = sym (none vs here) ∙ done in cc)

pub is_failing : (k : Task) (p : List Routine) (n : ℕ) (e : Expected) → ExpectedAt k n e → (Meets k p e.case → ⊥) → IsFailing k p e
is_failing k p n e at differs = record { expected = is_expected k n e at; fails = differs }

pub table_length : (k : Task) (table : List Outcome) → table ≡ all_ends k → length table ≡ length (inputs k.bounds.params)
table_length k table is = ap length is ∙ length-map (inputs k.bounds.params) (wanted k)

-- the end on a kept case by its place
pub end_on : (k : Task) (kept : List Case) (ends : List Outcome) (i : ℕ) (x : Case) (o : Outcome) → wanted_on k kept ≡ ends → slice_get kept i ≡ Some x → slice_get ends i ≡ Some o
    → o ≡ wanted k x.values
end_on k kept ends i x o are at end_at =
    sym (same_Some (wanted k x.values) o
    (sym (slice_get-map (λ (y : Case). wanted k y.values) kept i ∙ ap (option_map (λ (y : Case). wanted k y.values)) at) ∙ ap (λ os. slice_get os i) are ∙ end_at))

pub ends_length : (k : Task) (kept : List Case) (ends : List Outcome) → wanted_on k kept ≡ ends → length kept ≡ length ends
ends_length k kept ends are = sym (length-map kept (λ (x : Case). wanted k x.values)) ∙ ap length are
