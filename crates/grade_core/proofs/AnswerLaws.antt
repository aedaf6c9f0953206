-- From what a search finds to the answer to a task.
use Rattle.std.proofs.Common.{◌≡◌, ◌≢◌, ℕ, List, [], ◌∷◌, All, refl, sym, subst, arith, inl, inr}
use Rattle.std.specs.List.{Contains}
use Rattle.std.proofs.lemmas.Bool.{cases_lt}
use Rattle.std.proofs.lemmas.List.Elements.{All-head}
use Rattle.choice_tree.specs.declared.selection.Choice.{Choice}
use Rattle.choice_tree.specs.Choices.{member_of}
use Rattle.choice_tree.specs.Selections.{Fits, cost}
use Rattle.mpy_tree.specs.Shapes.{program_shape}
use Rattle.cegis_loop.specs.Answers.{IsKept, IsLeast}
use Rattle.cegis_loop.specs.Answers as loop
use Rattle.cegis_loop.specs.Space as loop_space
use Rattle.input_space.specs.declared.case.Case.{Case}
use Rattle.input_space.specs.Tasks.{HasWanted, IsBestOf, IsSound, Task, tree_of}
use Rattle.input_space.specs.TaskSpace.{SelectionMeets, case_of, space, wanted_inputs}
use Rattle.input_space.proofs.Elements.{all_if_contained}
use Rattle.input_space.proofs.TaskSpaceLaws.{all_selection_meet}
use Rattle.certificate_laws.specs.BestLaws.{LeastChoiceIsBest}
use Rattle.certificate_laws.proofs.BestRewritings as best
use Rattle.certificate_laws.proofs.BestRewritings.{input_wanted, selected, selections, whole}
use Rattle.feedback_text.specs.Answers.{NoneBelow}
use Rattle.grade_core.specs.Runs.{IsBestSelection, SomeFails}

pub best_selection : LeastChoiceIsBest → (k : Task) (b : ℕ) (s : List Choice) (n : ℕ) → IsSound k → IsLeast (space k b) (wanted_inputs k) s n → IsBestSelection k s n
best_selection law k b s n sound found =
    let m = law k b s n sound found in
    record { fits = m.fits; best = λ p es makes. subst (IsBestOf k p n) (sym makes.edits_are) (m.best p makes.program) }

-- no cheaper rewriting agrees, where no cheaper selection does
pub none_below : (k : Task) (b n : ℕ) → IsSound k → loop.NoneBelow (space k b) (wanted_inputs k) n → NoneBelow k n
none_below k b n sound none q m es makes agrees = elim (cases_lt m n) [
  | inl lower ↦ let has = selected k sound q m es makes agrees in absurd (none has.0 has.1 (let c = has.2 in omega (arith, lower, c)) has.3)
  | inr enough ↦ enough
]

-- the budget is no matter to which inputs are kept
pub kept_under : (k : Task) (a b : ℕ) (xs : List Case) → IsKept (space k a) xs → IsKept (space k b) xs
kept_under k a b xs h = record {
  inputs = h.inputs;
  new = h.new;
  refuting = λ i x some at. let r = h.refuting i x some at in (r.0, record { choice = r.1.choice; agrees = r.1.agrees; fails = r.1.fails });
}

-- where there is no input none is kept
pub none_kept : (k : Task) (b : ℕ) (xs : List Case) → wanted_inputs k ≡ [] → IsKept (space k b) xs → xs ≡ []
none_kept k b [] none kept = refl
none_kept k b (x ∷ xs) none kept =
    let c = subst (λ (ys : List Case). Contains ys x) none (All-head (loop_space.IsInput (space k b)) x xs kept.inputs) in
    absurd (let below = c.1 in omega arith)

-- the selection of the submission itself
pub some_fails : (k : Task) → IsSound k → (xs : List Case) → ((s : List Choice) → Fits (tree_of k) s → cost (member_of s) (tree_of k) ≡ 0 → All (SelectionMeets k s) xs → ⊥) → SomeFails k xs
some_fails k sound xs none met =
    let has = (selections k sound).selected (program_shape k.submission) 0 [] (whole k) in
    none has.0 has.1 has.2.cost_is (all_selection_meet k has.0 k.submission xs (sym has.2.tree) met)

pub none_wanted : (k : Task) → wanted_inputs k ≡ [] → HasWanted k → ⊥
none_wanted k none some =
    let c = subst (λ xs. Contains xs (case_of some.input)) none (input_wanted k some.input some.is_input some.done) in
    (let below = c.1 in omega arith)

-- where there is an input the reference gives a value on it
pub some_wanted : (k : Task) → wanted_inputs k ≢ [] → HasWanted k
some_wanted k some = best.some_wanted k (wanted_inputs k) (all_if_contained (Contains (wanted_inputs k)) (wanted_inputs k) (λ x c. c)) some
