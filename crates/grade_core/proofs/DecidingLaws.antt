-- What the texts of `grade` decide, step after step, and what of it the answer to their task is.
use Rattle.std.proofs.Common.{◌≡◌, ℕ, ◌<◌, List, [], ◌∷◌, length, map, get_or, refl, sym, ap, subst, ◌∙◌, arith, Vec}
use Rattle.std.specs.declared.alloc.Global.{Global}
use Rattle.mpy_tree.specs.declared.refusal.Refusal.{Refusal}
use Rattle.mpy_tree.specs.Outcomes.{is_done}
use Rattle.input_space.specs.declared.case.Case.{Case}
use Rattle.input_space.specs.Agreement.{Failure}
use Rattle.mpy_tree.specs.Refusals.{refusal_text}
use Rattle.input_space.specs.Tasks.{HasWanted, IsBestOf, IsFailureOf, Task}
use Rattle.feedback_text.specs.declared.answer.Answer as code
use Rattle.feedback_text.specs.Answers.{Answer, Correct, Corrected, NoCorrection, EmptyReference, Spent, IsAnswer, edit_tree}
use Rattle.feedback_text.specs.AnswerViews.{IsReported, StandsFor}
use Rattle.feedback_text.specs.ReportViews.{IsReportOf}
use Rattle.feedback_text.specs.Reports.{report_of}
use Rattle.source_files.specs.Fetches.{StopsAs}
use Rattle.source_files.specs.Views.{texts_of}
use Rattle.task_read.specs.declared.error.TaskError.{TaskError}
use Rattle.task_read.specs.declared.error.TaskError.TheVariants as task_error
use Rattle.task_read.specs.Errors.{RefusesAs, stop_of}
use Rattle.grade_core.specs.Commands.{answer_text, empty_reference}
use Rattle.grade_core.specs.Gradings.{IsTextOf, IsTold}
use Rattle.grade_core.specs.Runs.{IsRight}

-- THE TEXTS

pub four_texts : (xs : List (Vec ℕ Global)) (a b c d : Vec ℕ Global) (s t u v : List ℕ) → length xs ≡ 4
    → a ≡ get_or xs 0 a → b ≡ get_or xs 1 b → c ≡ get_or xs 2 c → d ≡ get_or xs 3 d → s ≡ a.items → t ≡ b.items → u ≡ c.items → v ≡ d.items
    → s ∷ t ∷ u ∷ v ∷ [] ≡ texts_of xs
four_texts (i ∷ j ∷ k ∷ l ∷ []) a b c d s t u v len ia ib ic id fa fb fc fd = cc
four_texts xs a b c d s t u v len ia ib ic id fa fb fc fd = absurd (omega arith)

-- what a reader of tasks refuses
pub stopped_by : (P Q : Refusal → Type 0) → ((r : Refusal) → P r → Q r) → (e : TaskError) → RefusesAs P e → StopsAs Q (stop_of e)
stopped_by P Q more (task_error.Refused r) h = more r h
stopped_by P Q more task_error.NoMemory h = tt

-- THE ANSWER

-- a reference with a failure gives a value
pub failure_wanted : (k : Task) (f : Failure) → IsFailureOf k f → HasWanted k
failure_wanted k f fails = record { input = f.input; is_input = fails.is_input; done = ap is_done fails.reference ∙ fails.done }

-- a right answer, where memory was there
pub given_told : (k : Task) (kept : List Case) (a : code.Answer) → IsRight k kept a → (a ≡ code.TheVariants.NoMemory → ⊥) → IsTold k a
given_told k kept code.TheVariants.Correct right memory = tt
given_told k kept (code.TheVariants.Corrected s cost fails) right memory = right.0.fits
given_told k kept (code.TheVariants.NoCorrection fails) right memory = tt
given_told k kept code.TheVariants.EmptyReference right memory = tt
given_told k kept (code.TheVariants.Spent n b) right memory = tt
given_told k kept code.TheVariants.NoMemory right memory = absurd (memory refl)

pub stands_right : (k : Task) (kept : List Case) (d : code.Answer) (a : Answer) → IsRight k kept d → StandsFor k d a → IsAnswer k a
stands_right k kept code.TheVariants.Correct a right stands = subst (IsAnswer k) (sym stands) right
stands_right k kept (code.TheVariants.Corrected s cost fails) Correct right stands = absurd stands
stands_right k kept (code.TheVariants.Corrected s cost fails) (NoCorrection failure) right stands = absurd stands
stands_right k kept (code.TheVariants.Corrected s cost fails) EmptyReference right stands = absurd stands
stands_right k kept (code.TheVariants.Corrected s cost fails) (Spent n b) right stands = absurd stands
stands_right k kept (code.TheVariants.Corrected s cost fails) (Corrected n failure es p) right stands = (
  subst (λ m. IsBestOf k p m (map edit_tree es)) stands.0 (right.0.best p es stands.2),
  subst (λ m. 0 < m) stands.0 right.1,
  subst (IsFailureOf k) stands.1 right.2.fails,
)
stands_right k kept (code.TheVariants.NoCorrection fails) a right stands = subst (IsAnswer k) (sym stands) (right.0, right.1.fails)
stands_right k kept code.TheVariants.EmptyReference a right stands = subst (IsAnswer k) (sym stands) right
stands_right k kept (code.TheVariants.Spent n b) a right stands = subst (IsAnswer k) (sym stands) right
stands_right k kept code.TheVariants.NoMemory a right stands = absurd stands

-- WHAT IS WRITTEN

pub told_reported : (k : Task) (d : code.Answer) → IsTold k d → (d ≡ code.TheVariants.EmptyReference → ⊥) → IsReported k d
told_reported k code.TheVariants.Correct told some = told
told_reported k (code.TheVariants.Corrected s cost fails) told some = told
told_reported k (code.TheVariants.NoCorrection fails) told some = told
told_reported k code.TheVariants.EmptyReference told some = absurd (some refl)
told_reported k (code.TheVariants.Spent n b) told some = told
told_reported k code.TheVariants.NoMemory told some = told

-- what is reported is no reference without values
not_empty : (k : Task) (d : code.Answer) (a : Answer) → IsReported k d → StandsFor k d a → a ≡ EmptyReference → ⊥
not_empty k code.TheVariants.Correct a reported stands is = let no = sym stands ∙ is in cc
not_empty k (code.TheVariants.Corrected s cost fails) Correct reported stands is = absurd stands
not_empty k (code.TheVariants.Corrected s cost fails) (Corrected n failure es p) reported stands is = cc
not_empty k (code.TheVariants.Corrected s cost fails) (NoCorrection failure) reported stands is = absurd stands
not_empty k (code.TheVariants.Corrected s cost fails) EmptyReference reported stands is = absurd stands
not_empty k (code.TheVariants.Corrected s cost fails) (Spent n b) reported stands is = absurd stands
not_empty k (code.TheVariants.NoCorrection fails) a reported stands is = let no = sym stands ∙ is in cc
not_empty k code.TheVariants.EmptyReference a reported stands is = reported
not_empty k (code.TheVariants.Spent n b) a reported stands is = let no = sym stands ∙ is in cc
not_empty k code.TheVariants.NoMemory a reported stands is = reported

report_text : (word : List ℕ) (k : Task) (a : Answer) → (a ≡ EmptyReference → ⊥) → report_of k a ≡ answer_text word k a
report_text word k Correct some = refl
report_text word k (Corrected cost fails edits p) some = refl
report_text word k (NoCorrection fails) some = refl
report_text word k EmptyReference some = absurd (some refl)
report_text word k (Spent n b) some = refl

pub text_of_report : (word : List ℕ) (k : Task) (d : code.Answer) (text : List ℕ) → IsReported k d → IsReportOf k d text → IsTextOf word k d text
text_of_report word k d text reported shown = record {
  answer = shown.answer;
  stands = shown.stands;
  text_is = shown.text_is ∙ report_text word k shown.answer (not_empty k d shown.answer reported shown.stands);
}

pub text_of_refusal : (word : List ℕ) (k : Task) (d : code.Answer) (text : List ℕ) → d ≡ code.TheVariants.EmptyReference → text ≡ refusal_text word (empty_reference k) → IsTextOf word k d text
text_of_refusal word k d text is written = record {
  answer = EmptyReference;
  stands = subst (λ (x : code.Answer). StandsFor k x EmptyReference) (sym is) refl;
  text_is = written;
}
