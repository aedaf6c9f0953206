-- The first kept case on which a submission fails.
use Rattle.std.proofs.Common.{◌≡◌, ℕ, ◌<◌, List, Some, All, slice_get, refl, sym, ap, subst, ◌∙◌}
use Rattle.std.specs.List.{Contains}
use Rattle.std.proofs.lemmas.List.Elements.{All-contains}
use Rattle.input_space.specs.declared.case.Case.{Case}
use Rattle.input_space.specs.Agreement.{IsInput, ends_on}
use Rattle.input_space.specs.Tasks.{IsFailureOf, Task}
use Rattle.input_space.specs.TaskSpace.{Meets, wanted_inputs}
use Rattle.input_space.proofs.Elements.{contained_at}
use Rattle.input_space.proofs.TaskSpaceLaws.{wanted_is_input}
use Rattle.feedback_text.specs.declared.answer.Failure as code
use Rattle.feedback_text.specs.AnswerViews.{failure_of}
use Rattle.grade_core.specs.Runs.{FailsSo, IsFirstFailure}

is_failure : (k : Task) (x : Case) (f : code.Failure) → Contains (wanted_inputs k) x → FailsSo k x f → IsFailureOf k (failure_of f)
is_failure k x f c so = record {
  is_input = subst (λ (y : Case). IsInput k.bounds y.values) (sym so.case_is) (wanted_is_input k x c);
  reference = ap (λ (y : Case). ends_on k.bounds k.reference y.values) so.case_is ∙ so.wants;
  done = so.done;
  submission = ap (λ (y : Case). ends_on k.bounds k.submission y.values) so.case_is ∙ so.gives_is;
  differ = so.differ;
}

pub is_first : (k : Task) (kept : List Case) (i : ℕ) (x : Case) (f : code.Failure) → All (Contains (wanted_inputs k)) kept → slice_get kept i ≡ Some x → FailsSo k x f
    → ((j : ℕ) (y : Case) → j < i → slice_get kept j ≡ Some y → Meets k k.submission y) → IsFirstFailure k kept (failure_of f)
is_first k kept i x f inputs at so before = record {
  place = i;
  at = at ∙ ap Some (sym so.case_is);
  fails = is_failure k x f (All-contains (Contains (wanted_inputs k)) kept x inputs (contained_at kept i x at)) so;
  first = before;
}
