-- What follows from how `grade` ends.
use Rattle.std.proofs.Common.{◌≡◌, ◌⊎◌, ℕ, List, inl, inr, refl, sym, ap, subst, ◌∙◌}
use Rattle.grade_io.specs.Devices.{Devices, SinkState}
use Rattle.grade_io.specs.Written.{Wrote}
use Rattle.grade_io.specs.declared.status.Status.{Status}
use Rattle.grade_io.specs.declared.status.Status.TheVariants as status
use Rattle.mpy_tree.specs.declared.refusal.Refusal.{Refusal}
use Rattle.mpy_tree.specs.Outcomes.{is_done}
use Rattle.mpy_tree.specs.Refusals.{refusal_text}
use Rattle.input_space.specs.Tasks.{HasWanted, Task}
use Rattle.source_files.specs.Texts.{Tells}
use Rattle.file_commands.specs.Claims.{AreTold, IsSaid, NoFault}
use Rattle.file_commands.specs.Ends.{Ends, IsFirstRefusal}
use Rattle.file_commands.proofs.Claims as command
use Rattle.file_commands.proofs.Endings.{IsOwn}
use Rattle.feedback_text.specs.Answers.{Answer, Correct, Corrected, NoCorrection, EmptyReference, Spent, IsAnswer}
use Rattle.grade_core.specs.Claims.{IsGraded, IsRefusedOrSpent}
use Rattle.grade_core.specs.Commands.{Graded, IsGradedAs, answer_text, empty_reference, files_of, grade_command, status_of}
use Rattle.grade_core.specs.Decisions.{task_step}
use Rattle.grade_core.specs.Words.{GradeWords}
use Rattle.grade_core.proofs.DecidingLaws.{failure_wanted}
use Rattle.grade_core.proofs.OneGrading.{one_task_step}

pub own_status : (a : Answer) → IsOwn (status_of a)
own_status Correct = tt
own_status (Corrected cost fails edits p) = tt
own_status (NoCorrection fails) = tt
own_status EmptyReference = tt
own_status (Spent n b) = tt

-- the submission of a correction doesn't agree
graded_answer : (k : Task) (a : Answer) → IsAnswer k a → IsGraded k (status_of a)
graded_answer k Correct answer = (answer.0, answer.1.agrees)
graded_answer k (Corrected cost fails edits p) answer = λ agrees.
    answer.2.differ (sym answer.2.submission ∙ agrees fails.input answer.2.is_input (ap is_done answer.2.reference ∙ answer.2.done) ∙ answer.2.reference)
graded_answer k (NoCorrection fails) answer = answer.0
graded_answer k EmptyReference answer = answer
graded_answer k (Spent n b) answer = tt

-- the texts spell the one task
pub graded_as : (b : ℕ) (ts : List (List ℕ)) (k : Task) (x : Graded) → (task_step ts).gives k → IsGradedAs b ts x → IsGraded k (status_of x.answer)
graded_as b ts k x given graded =
    let same : x.task ≡ k = (one_task_step ts).gives x.task k graded.task given in
    subst (λ (j : Task). IsGraded j (status_of x.answer)) same (graded_answer x.task x.answer graded.answer)

pub graded : (g : GradeWords) (ts : List (List ℕ)) (k : Task) (before after : Devices) (s : Status) → Ends (grade_command g) before after s
    → AreTold before (files_of g) ts → (task_step ts).gives k → NoFault before after → IsGraded k s
graded g ts k before after s ends told given sure =
    command.answered (grade_command g) ts before after s (IsGraded k) tt (λ x decided wrote. graded_as g.budget ts k x given decided)
    (λ r refuses. (one_task_step ts).not_both k r given refuses) ends told sure

pub refused : (g : GradeWords) (ts : List (List ℕ)) (r : Refusal) (before after : Devices) (s : Status) → Ends (grade_command g) before after s
    → Tells before.shelf (files_of g) ts → IsFirstRefusal (grade_command g) ts r → NoFault before after → IsSaid ((grade_command g).line r) status.Refused before.sink after.sink s
refused g ts r before after s ends tells first sure =
    command.refused (grade_command g) ts before after s r (λ x decided refuses. (one_task_step ts).not_both x.task r decided.task refuses) (one_task_step ts).refuses ends tells first sure

-- A REFERENCE WITHOUT VALUES

-- the answer is that it has none, or that the budget is spent
empty_answer : (k : Task) (a : Answer) → IsAnswer k a → (HasWanted k → ⊥) → (a ≡ EmptyReference) ⊎ (status_of a ≡ status.Spent)
empty_answer k Correct answer none = absurd (none answer.0)
empty_answer k (Corrected cost fails edits p) answer none = absurd (none (failure_wanted k fails answer.2))
empty_answer k (NoCorrection fails) answer none = absurd (none (failure_wanted k fails answer.1))
empty_answer k EmptyReference answer none = inl refl
empty_answer k (Spent n b) answer none = inr refl

pub empty_found : (b : ℕ) (ts : List (List ℕ)) (k : Task) (x : Graded) → (task_step ts).gives k → (HasWanted k → ⊥) → IsGradedAs b ts x
    → (x.answer ≡ EmptyReference) ⊎ (status_of x.answer ≡ status.Spent)
empty_found b ts k x given none graded =
    let same : x.task ≡ k = (one_task_step ts).gives x.task k graded.task given in
    empty_answer x.task x.answer graded.answer (subst (λ (j : Task). HasWanted j → ⊥) (sym same) none)

pub empty_as : (word : List ℕ) (b : ℕ) (ts : List (List ℕ)) (k : Task) (x : Graded) (before after : SinkState) → (task_step ts).gives k → (HasWanted k → ⊥) → IsGradedAs b ts x
    → Wrote before after (answer_text word x.task x.answer) → IsRefusedOrSpent (refusal_text word (empty_reference k)) before after (status_of x.answer)
empty_as word b ts k x before after given none graded wrote =
    let same : x.task ≡ k = (one_task_step ts).gives x.task k graded.task given in
    elim (empty_found b ts k x given none graded) [
      | inl is ↦ (
          let line : Wrote before after (answer_text word k EmptyReference) =
          subst (λ (j : Task). Wrote before after (answer_text word j EmptyReference)) same (subst (λ a. Wrote before after (answer_text word x.task a)) is wrote) in
          inl (subst (λ a. IsSaid (refusal_text word (empty_reference k)) status.Refused before after (status_of a)) (sym is) (refl, line)))
      | inr spent ↦ inr spent
    ]

pub empty : (g : GradeWords) (ts : List (List ℕ)) (k : Task) (before after : Devices) (s : Status) → Ends (grade_command g) before after s
    → AreTold before (files_of g) ts → (task_step ts).gives k → (HasWanted k → ⊥) → NoFault before after
    → IsRefusedOrSpent (refusal_text g.reference (empty_reference k)) before.sink after.sink s
empty g ts k before after s ends told given none sure =
    command.answered (grade_command g) ts before after s (IsRefusedOrSpent (refusal_text g.reference (empty_reference k)) before.sink after.sink) (inl tt)
    (λ x decided wrote. empty_as g.reference g.budget ts k x before.sink after.sink given none decided wrote)
    (λ r refuses. (one_task_step ts).not_both k r given refuses) ends told sure
