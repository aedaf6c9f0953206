-- the task of the four texts
use Rattle.std.proofs.Common.{subst}
use Rattle.std.specs.Prelude.{List, [], ◌∷◌, ℕ}
use Rattle.mpy_tree.specs.declared.refusal.Refusal.{Refusal}
use Rattle.task_read.specs.Errors.{stop_of}
use Rattle.input_space.specs.TaskParts.{task_with}
use Rattle.grade_core.specs.Decisions.{task_step}
use Rattle.file_commands.proofs.Stopping.{stopped}
use Rattle.grade_core.proofs.DecidingLaws.{four_texts, stopped_by}
use Rattle.grade_core.proofs.grading.read.Goals as goal

pub returns : goal.returns
returns c =
    subst (λ (us : List (List ℕ)). (task_step us).gives (task_with c.in_ok-read_task.field-0))
    (four_texts c.args.texts.now c.bounds-item.result c.reference-item.result c.submission-item.result c.rules-item.result _ _ _ _ c.requires.four
    c.bounds-item.is c.reference-item.is c.submission-item.is c.rules-item.is c.deref.ensures.value c.deref-2.ensures.value c.deref-3.ensures.value c.deref-4.ensures.value)
    c.in_ok-read_task.ensures.read

pub returns-in_err-read_task : goal.returns-in_err-read_task
returns-in_err-read_task c =
    let P : Refusal → Type 0 = (task_step (c.deref.result.now ∷ c.deref-2.result.now ∷ c.deref-3.result.now ∷ c.deref-4.result.now ∷ [])).refuses in
    stopped _ P _ c.from_residual.result (stop_of c.in_err-read_task.field-0.0) c.from_residual.ensures.1
    (stopped_by P P (λ r h. h) c.in_err-read_task.field-0.0 c.in_err-read_task.ensures.refused)
    (λ q h. subst (λ (us : List (List ℕ)). (task_step us).refuses q)
    (four_texts c.args.texts.now c.bounds-item.result c.reference-item.result c.submission-item.result c.rules-item.result _ _ _ _ c.requires.four
    c.bounds-item.is c.reference-item.is c.submission-item.is c.rules-item.is c.deref.ensures.value c.deref-2.ensures.value c.deref-3.ensures.value c.deref-4.ensures.value) h)
