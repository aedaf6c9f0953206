-- When a program ends as the reference does.
use Rattle.std.proofs.Common.{◌≡◌, Bool, true, false, not, ◌&&◌, List, [], ◌∷◌, refl, sym, ap, ◌∙◌}
use Rattle.std.proofs.Common.{Option, Some, None}
use Rattle.std.specs.Bool.{Decides}
use Rattle.std.specs.Cmp.Lexicographic.{pointwise}
use Rattle.std.specs.Ordering.{int_eq}
use Rattle.std.proofs.lemmas.Bool.{and_parts, true≢false}
use Rattle.std.proofs.lemmas.Bool.Decides.{Decides-eqb, Decides-int_eq}
use Rattle.std.proofs.lemmas.Slice.Eq.{slice_eq-Decides}
use Rattle.mpy_tree.specs.declared.outcome.Outcome.{Outcome}
use Rattle.mpy_tree.specs.declared.outcome.Outcome.TheVariants as outcome
use Rattle.mpy_tree.specs.declared.value.Value.{Value}
use Rattle.mpy_tree.specs.declared.value.Value.TheVariants as val
use Rattle.mpy_tree.specs.Operations.{equal, same_truth}
use Rattle.mpy_tree.specs.Outcomes.{is_done}
use Rattle.mpy_tree.specs.Shapes.{program_shape}
use Rattle.mpy_tree.specs.Syntax.{Routine}
use Rattle.mpy_tree.specs.Values.{same_bytes}
use Rattle.choice_tree.specs.declared.selection.Choice.{Choice}
use Rattle.choice_tree.specs.Choices.{member_of}
use Rattle.choice_tree.specs.Selections.{plain}
use Rattle.input_space.specs.declared.case.Case.{Case}
use Rattle.input_space.specs.Agreement.{ends_on}
use Rattle.input_space.specs.Tasks.{Task, tree_of}
use Rattle.input_space.specs.TaskSpace.{SelectionMeets, wanted}
use Rattle.input_space.proofs.TaskSpaceLaws.{selection_meets}
use Rattle.query_build.specs.Comparing.{end_as_one, fails_on, is_yes, meets_on, same_value, same_values}

truths : (a b : Bool) → Decides (same_truth a b) (a ≡ b)
truths true true = (λ h. refl, λ h. refl)
truths true false = (λ h. cc, λ h. cc)
truths false true = (λ h. cc, λ h. cc)
truths false false = (λ h. refl, λ h. refl)

-- two values are equal by the language exactly where they are one
yes : (v w : Value) → Decides (is_yes (equal v w)) (v ≡ w)
yes (val.Int a) (val.Int b) =
    let d = Decides-int_eq a b in (λ h. ap val.Int (d.0 h), λ h. d.1 cc)
yes (val.Bool a) (val.Bool b) = let d = truths a b in (λ h. ap val.Bool (d.0 h), λ h. d.1 cc)
yes (val.List a) (val.List b) =
    let d = slice_eq-Decides Decides-int_eq a b (pointwise int_eq a b) refl in
    (λ h. ap val.List (d.0 h), λ h. d.1 cc)
yes (val.Text a) (val.Text b) =
    let d = slice_eq-Decides Decides-eqb a b (same_bytes a b) refl in
    (λ h. ap val.Text (d.0 h), λ h. d.1 cc)
yes (val.Int a) (val.Bool b) = (λ h. cc, λ h. cc)
yes (val.Int a) (val.List b) = (λ h. cc, λ h. cc)
yes (val.Int a) (val.Text b) = (λ h. cc, λ h. cc)
yes (val.Bool a) (val.Int b) = (λ h. cc, λ h. cc)
yes (val.Bool a) (val.List b) = (λ h. cc, λ h. cc)
yes (val.Bool a) (val.Text b) = (λ h. cc, λ h. cc)
yes (val.List a) (val.Int b) = (λ h. cc, λ h. cc)
yes (val.List a) (val.Bool b) = (λ h. cc, λ h. cc)
yes (val.List a) (val.Text b) = (λ h. cc, λ h. cc)
yes (val.Text a) (val.Int b) = (λ h. cc, λ h. cc)
yes (val.Text a) (val.Bool b) = (λ h. cc, λ h. cc)
yes (val.Text a) (val.List b) = (λ h. cc, λ h. cc)

all_true : (a b : Bool) → a ≡ true → b ≡ true → (a && b) ≡ true
all_true true b e h = h
all_true false b e h = absurd cc

maybe_one : (v w : Option Value) → Decides (same_value v w) (v ≡ w)
maybe_one None None = (λ h. refl, λ h. refl)
maybe_one None (Some w) = (λ h. cc, λ h. cc)
maybe_one (Some v) None = (λ h. cc, λ h. cc)
maybe_one (Some v) (Some w) =
    let d = yes v w in (λ h. ap Some (d.0 h), λ h. d.1 cc)

all_one : (vs ws : List Value) → Decides (same_values vs ws) (vs ≡ ws)
all_one [] [] = (λ h. refl, λ h. refl)
all_one [] (w ∷ ws) = (λ h. cc, λ h. cc)
all_one (v ∷ vs) [] = (λ h. cc, λ h. cc)
all_one (v ∷ vs) (w ∷ ws) =
    let d = yes v w in
    let rest = all_one vs ws in (
      λ h.
          let both = and_parts (is_yes (equal v w)) (same_values vs ws) h in
          ap (λ x. x ∷ vs) (d.0 both.0) ∙ ap (λ xs. w ∷ xs) (rest.0 both.1),
      λ h. all_true (is_yes (equal v w)) (same_values vs ws) (d.1 cc) (rest.1 cc),
    )

-- two ends without a fault are one exactly where their values are, and what was printed
pub done_one : (v w : Option Value) (vs ws : List Value)
    → Decides (same_value v w && same_values vs ws) (outcome.Done v vs ≡ outcome.Done w ws)
done_one v w vs ws =
    let d = maybe_one v w in
    let rest = all_one vs ws in (
      λ h.
          let both = and_parts (same_value v w) (same_values vs ws) h in
          ap (λ x. outcome.Done x vs) (d.0 both.0) ∙ ap (outcome.Done w) (rest.0 both.1),
      λ h. all_true (same_value v w) (same_values vs ws) (d.1 cc) (rest.1 cc),
    )

-- where the first run ends without a fault
one_end : (want got : Outcome) → is_done want ≡ true
    → (end_as_one want got ≡ true → got ≡ want) × (got ≡ want → end_as_one want got ≡ true)
one_end (outcome.Fault kind line) got h = absurd (true≢false (sym h))
one_end (outcome.Done v vs) (outcome.Fault kind line) h =
    (λ e. absurd (true≢false (sym e)), λ e. absurd (true≢false (sym (ap is_done e))))
one_end (outcome.Done v vs) (outcome.Done w ws) h =
    let d = done_one v w vs ws in (λ e. sym (d.0 e), λ e. d.1 (sym e))

-- the reference ends without a fault, and the program of the selection ends so, too
pub meets_so : (k : Task) (s : List Choice) (p : List Routine) (x : Case)
    → program_shape p ≡ plain (member_of s) (tree_of k) → is_done (wanted k x.values) ≡ true
    → (meets_on k p x.values ≡ true → SelectionMeets k s x)
    × (SelectionMeets k s x → meets_on k p x.values ≡ true)
meets_so k s p x made done =
    let alike = one_end (wanted k x.values) (ends_on k.bounds p x.values) done in
    (λ h. selection_meets k s p x made (λ d. alike.0 h), λ met. alike.1 (met p made done))

not_true : (b : Bool) → not b ≡ true → b ≡ false
not_true true h = absurd cc
not_true false h = refl

untrue : (b : Bool) → (b ≡ true → ⊥) → not b ≡ true
untrue true h = absurd (h refl)
untrue false h = refl

-- the reference ends without a fault, and the program of the selection doesn't end so
pub fails_so : (k : Task) (s : List Choice) (p : List Routine) (x : Case)
    → program_shape p ≡ plain (member_of s) (tree_of k)
    → (fails_on k p x.values ≡ true
    → (is_done (wanted k x.values) ≡ true) × (SelectionMeets k s x → ⊥))
    × (is_done (wanted k x.values) ≡ true → (SelectionMeets k s x → ⊥)
    → fails_on k p x.values ≡ true)
fails_so k s p x made = (
  λ h.
      let parts = and_parts (is_done (wanted k x.values)) (not (meets_on k p x.values)) h in (
        parts.0,
        λ met. true≢false (sym ((meets_so k s p x made parts.0).1 met)
            ∙ not_true (meets_on k p x.values) parts.1),
      ),
  λ done fails.
      all_true (is_done (wanted k x.values)) (not (meets_on k p x.values)) done
      (untrue (meets_on k p x.values) (λ met. fails ((meets_so k s p x made done).0 met))),
)
