-- Whether runs end alike is decided.
use Rattle.std.proofs.Common.{◌≡◌, ◌⊎◌, inl, inr, ◌==◌, Bool, true, false, List, [], ◌∷◌, Option, Some, None, refl, sym, ap, ◌∙◌}
use Rattle.std.specs.Bool.{Decides}
use Rattle.std.specs.Cmp.Lexicographic.{pointwise}
use Rattle.std.specs.Ordering.{int_eq}
use Rattle.std.proofs.lemmas.Bool.{true≢false}
use Rattle.std.proofs.lemmas.Bool.Decides.{Decides-eqb, Decides-int_eq, Decides-like}
use Rattle.std.proofs.lemmas.Slice.Eq.{slice_eq-Decides}
use Rattle.mpy_tree.specs.declared.outcome.Outcome.{Outcome}
use Rattle.mpy_tree.specs.declared.outcome.Outcome.TheVariants as outcome
use Rattle.mpy_tree.specs.declared.value.Value.{Value}
use Rattle.mpy_tree.specs.declared.value.Value.TheVariants as value
use Rattle.mpy_tree.specs.Outcomes.{is_done}
use Rattle.mpy_tree.specs.Shapes.{program_shape}
use Rattle.mpy_tree.specs.Syntax.{Routine}
use Rattle.mpy_tree.proofs.ValueTests.{lists_decide}
use Rattle.choice_tree.specs.declared.selection.Choice.{Choice}
use Rattle.choice_tree.specs.Choices.{member_of}
use Rattle.choice_tree.specs.Selections.{plain}
use Rattle.input_space.specs.declared.case.Case.{Case}
use Rattle.input_space.specs.Agreement.{ends_on}
use Rattle.input_space.specs.Tasks.{Task, tree_of}
use Rattle.input_space.specs.TaskSpace.{SelectionMeets, wanted}
use Rattle.input_space.proofs.TaskSpaceLaws.{selection_meets}

by_test : {P : Type 0} (b : Bool) → Decides b P → P ⊎ (P → ⊥)
by_test true d = inl (d.0 refl)
by_test false d = inr (λ h. true≢false (sym (d.1 h)))

one_value : (v w : Value) → (v ≡ w) ⊎ (v ≡ w → ⊥)
one_value (value.Int a) (value.Int b) =
    let test = int_eq a b in
    by_test test (Decides-like test (λ h. ap value.Int h) (λ h. cc) (Decides-int_eq a b))
one_value (value.Bool true) (value.Bool true) = inl refl
one_value (value.Bool true) (value.Bool false) = inr (λ h. cc)
one_value (value.Bool false) (value.Bool true) = inr (λ h. cc)
one_value (value.Bool false) (value.Bool false) = inl refl
one_value (value.List xs) (value.List ys) =
    by_test (pointwise int_eq xs ys) (lists_decide (pointwise int_eq xs ys) xs ys refl)
one_value (value.Text xs) (value.Text ys) =
    let test = pointwise (λ a b. a == b) xs ys in
    let same = slice_eq-Decides Decides-eqb xs ys test refl in
    by_test test (Decides-like test (λ h. ap value.Text h) (λ h. cc) same)
one_value _ _ = inr (λ h. cc)

no_value_or_one : (o q : Option Value) → (o ≡ q) ⊎ (o ≡ q → ⊥)
no_value_or_one None None = inl refl
no_value_or_one None (Some w) = inr (λ h. cc)
no_value_or_one (Some v) None = inr (λ h. cc)
no_value_or_one (Some v) (Some w) = by (one_value v w)
  where
    by : (v ≡ w) ⊎ (v ≡ w → ⊥) → (Some v ≡ Some w) ⊎ (Some v ≡ Some w → ⊥)
    by (inl e) = inl (ap Some e)
    by (inr n) = inr (λ h. n cc)

same_values : (vs ws : List Value) → (vs ≡ ws) ⊎ (vs ≡ ws → ⊥)
same_values [] [] = inl refl
same_values [] (w ∷ ws) = inr (λ h. cc)
same_values (v ∷ vs) [] = inr (λ h. cc)
same_values (v ∷ vs) (w ∷ ws) = by (one_value v w) (same_values vs ws)
  where
    by : (v ≡ w) ⊎ (v ≡ w → ⊥) → (vs ≡ ws) ⊎ (vs ≡ ws → ⊥)
        → (v ∷ vs ≡ w ∷ ws) ⊎ (v ∷ vs ≡ w ∷ ws → ⊥)
    by (inl e) (inl f) = inl (ap (λ z. z ∷ vs) e ∙ ap (λ zs. w ∷ zs) f)
    by (inr n) f = inr (λ h. n cc)
    by (inl e) (inr n) = inr (λ h. n cc)

-- where one is to end without a fault
alike_or_not : (got want : Outcome)
    → (is_done want ≡ true → got ≡ want) ⊎ ((is_done want ≡ true → got ≡ want) → ⊥)
alike_or_not got (outcome.Fault kind line) = inl (λ h. absurd (true≢false (sym h)))
alike_or_not (outcome.Fault kind line) (outcome.Done v vs) =
    inr (λ f. true≢false (sym (ap is_done (f refl))))
alike_or_not (outcome.Done w ws) (outcome.Done v vs) = by (no_value_or_one w v) (same_values ws vs)
  where
    by : (w ≡ v) ⊎ (w ≡ v → ⊥) → (ws ≡ vs) ⊎ (ws ≡ vs → ⊥)
        → (true ≡ true → outcome.Done w ws ≡ outcome.Done v vs)
        ⊎ ((true ≡ true → outcome.Done w ws ≡ outcome.Done v vs) → ⊥)
    by (inl e) (inl f) = inl (λ h. ap (λ z. outcome.Done z ws) e ∙ ap (outcome.Done v) f)
    by (inr n) f = inr (λ g. let e = g refl in n cc)
    by (inl e) (inr n) = inr (λ g. let e = g refl in n cc)

pub meets_or_not : (k : Task) (s : List Choice) (x : Case) (p : List Routine)
    → program_shape p ≡ plain (member_of s) (tree_of k)
    → SelectionMeets k s x ⊎ (SelectionMeets k s x → ⊥)
meets_or_not k s x p shape =
    elim (alike_or_not (ends_on k.bounds p x.values) (wanted k x.values)) [
      | inl met ↦ inl (selection_meets k s p x shape met)
      | inr not ↦ inr (λ met. not (met p shape))
    ]
