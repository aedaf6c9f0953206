-- From the choices of a search to the rewritings of a submission.
use Rattle.std.proofs.Common.{◌≡◌, ◌≢◌, ℕ, true, List, [], ◌∷◌, All, map, refl, sym, subst, ap, ◌∙◌, arith, inl, inr}
use Rattle.std.specs.List.{Contains}
use Rattle.std.proofs.lemmas.Bool.{cases_lt}
use Rattle.std.proofs.lemmas.List.Elements.{All-contains, All-head}
use Rattle.mpy_tree.specs.declared.value.Value.{Value}
use Rattle.mpy_tree.specs.Shapes.{program_shape}
use Rattle.mpy_tree.specs.Syntax.{Routine}
use Rattle.mpy_tree.specs.Trees.{Tree}
use Rattle.choice_tree.specs.declared.selection.Choice.{Choice}
use Rattle.choice_tree.specs.declared.tree.WProg.{WProg}
use Rattle.choice_tree.specs.Choices.{member_of}
use Rattle.choice_tree.specs.Contexts.{elsewhere, outermost}
use Rattle.choice_tree.specs.Rewriting as tree
use Rattle.choice_tree.specs.Selections.{Fits, MadeBySelections, cost, edits, plain}
use Rattle.choice_tree.specs.StatementViews.{weighted_prog}
use Rattle.choice_tree.specs.Templates.{Correction}
use Rattle.choice_tree.proofs.SelectionLaws.{made_by_selections}
use Rattle.eml_faults.specs.FaultLaws.{IsSmall}
use Rattle.eml_faults.proofs.Faultless.{primes_kept, small_kept}
use Rattle.cegis_loop.specs.Answers.{IsLeast}
use Rattle.input_space.specs.declared.case.Case.{Case}
use Rattle.input_space.specs.Agreement.{Agrees, IsInput}
use Rattle.input_space.specs.Inputs.{inputs}
use Rattle.input_space.specs.Tasks.{HasWanted, IsBestOf, IsSound, Rewrites, Task, setting, tree_of}
use Rattle.input_space.specs.TaskSpace.{Meets, SelectionMeets, case_of, is_wanted, space, wanted_inputs}
use Rattle.input_space.proofs.Elements.{all_if_contained, contained_if, map_contains}
use Rattle.input_space.proofs.TaskSpaceLaws.{all_meet, all_selection_meet, wanted_is_input, was_wanted}
use Rattle.selection_programs.specs.Programs.{MakesPrograms}
use Rattle.certificate_laws.specs.BestLaws.{FreeChoiceIsSubmission, LeastChoiceIsBest, Makes, NoChoiceNoRewriting}
use Rattle.certificate_laws.proofs.FreeRewritings.{IsDear, free_is_whole, kept_whole}

-- SELECTIONS AND REWRITINGS

-- the rules make this tree of the submission
abbrev pub IsMade : Task → Tree → ℕ → List tree.Edit → Type 0
IsMade k t n es = tree.Rewrites (setting k) elsewhere 0 (outermost (setting k)) (program_shape k.submission) t n es

pub selections : (k : Task) → IsSound k → MadeBySelections (tree_of k) (IsMade k)
selections k sound = made_by_selections (setting k) k.submission (primes_kept [] k.rules sound.no_meaning_fault)

dear_rules : (rs : List Correction) → All IsSmall rs → All IsDear rs
dear_rules rs small = λ i d within. (small i d within).cost_from

-- the submission is a rewriting of itself
pub whole : (k : Task) → Rewrites k k.submission 0 []
whole k = kept_whole (setting k) elsewhere 0 (outermost (setting k)) (program_shape k.submission) refl

-- AGREEMENT

pub input_wanted : (k : Task) (vs : List Value) → IsInput k.bounds vs → is_wanted k (case_of vs) ≡ true → Contains (wanted_inputs k) (case_of vs)
input_wanted k vs input done = contained_if (is_wanted k) (map case_of (inputs k.bounds.params)) (case_of vs) (map_contains case_of (inputs k.bounds.params) vs input) done

agrees_on_all : (k : Task) (p : List Routine) → All (Meets k p) (wanted_inputs k) → Agrees k.bounds k.reference p
agrees_on_all k p met vs input done = All-contains (Meets k p) (wanted_inputs k) (case_of vs) met (input_wanted k vs input done) done

meets_where_agrees : (k : Task) (p : List Routine) → Agrees k.bounds k.reference p → All (Meets k p) (wanted_inputs k)
meets_where_agrees k p agrees = all_if_contained (Meets k p) (wanted_inputs k) (λ x c done. agrees x.values (wanted_is_input k x c) done)

-- a rewriting that agrees has a selection that does
pub selected : (k : Task) → IsSound k → (q : List Routine) (n : ℕ) (es : List tree.Edit) → Rewrites k q n es
    → Agrees k.bounds k.reference q → (s : List Choice) × Fits (tree_of k) s × (cost (member_of s) (tree_of k) ≡ n) × All (SelectionMeets k s) (wanted_inputs k)
selected k sound q n es makes agrees =
    let has = (selections k sound).selected (program_shape q) n es makes in
    (has.0, has.1, has.2.cost_is, all_selection_meet k has.0 q (wanted_inputs k) (sym has.2.tree) (meets_where_agrees k q agrees))

-- where there is an input the reference gives a value on it
pub some_wanted : (k : Task) (xs : List Case) → All (Contains (wanted_inputs k)) xs → xs ≢ [] → HasWanted k
some_wanted k [] all some = absurd (some refl)
some_wanted k (x ∷ xs) all some =
    let c = All-head (Contains (wanted_inputs k)) x xs all in
    record { input = x.values; is_input = wanted_is_input k x c; done = was_wanted k x c }

-- THE LAWS

pub program_made : MakesPrograms → (k : Task) (s : List Choice) (w : WProg) → weighted_prog w ≡ tree_of k → (p : List Routine) × Makes k s p
program_made makes k s w is = let made = makes w (member_of s) in (made.0, made.1 ∙ ap (plain (member_of s)) is)

pub none_agree : NoChoiceNoRewriting
none_agree k budget sound none q n es makes agrees = let has = selected k sound q n es makes agrees in none has.0 has.1 has.3

-- the program that a selection of least cost makes is a best rewriting
pub best_program : (k : Task) (budget : ℕ) (s : List Choice) (n : ℕ) → IsSound k → IsLeast (space k budget) (wanted_inputs k) s n
    → (p : List Routine) → Makes k s p → IsBestOf k p n (edits (member_of s) (tree_of k) 0)
best_program k budget s n sound found p made = record {
  rewriting =
      subst (λ t. IsMade k t n (edits (member_of s) (tree_of k) 0)) (sym made)
      (subst (λ m. IsMade k (plain (member_of s) (tree_of k)) m (edits (member_of s) (tree_of k) 0)) found.cost_of
      ((selections k sound).made s found.choice));
  agrees = agrees_on_all k p (all_meet k s p (wanted_inputs k) made found.agrees);
  least = λ q m fs rewriting agrees. elim (cases_lt m n) [
    | inl lower ↦
        let has = selected k sound q m fs rewriting agrees in
        absurd (found.least has.0 has.1 (let c = has.2 in omega (arith, lower, c)) has.3)
    | inr enough ↦ enough
  ];
}

pub least_is_best : MakesPrograms → LeastChoiceIsBest
least_is_best makes k budget s n sound found = record {
  fits = found.choice;
  best = best_program k budget s n sound found;
  made = program_made makes k s;
}

-- a selection that costs nothing makes the submission
free_selection : (k : Task) → IsSound k → (s : List Choice) → Fits (tree_of k) s → cost (member_of s) (tree_of k) ≡ 0 → plain (member_of s) (tree_of k) ≡ program_shape k.submission
free_selection k sound s fits free =
    free_is_whole (setting k) (dear_rules k.rules (small_kept k.rules sound.no_limit_fault).1) ((selections k sound).made s fits) free refl

pub submission_best : FreeChoiceIsSubmission
submission_best k budget s sound found = record {
  rewriting = whole k;
  agrees =
      agrees_on_all k k.submission
      (all_meet k s k.submission (wanted_inputs k) (sym (free_selection k sound s found.choice found.cost_of)) found.agrees);
  least = λ q m fs rewriting agrees. omega arith;
}
