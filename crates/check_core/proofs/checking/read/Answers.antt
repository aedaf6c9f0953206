-- the task of the first four texts
use Rattle.std.specs.Prelude.{[], ◌∷◌}
use Rattle.mpy_tree.specs.declared.refusal.Refusal.{Refusal}
use Rattle.task_read.specs.Errors.{stop_of}
use Rattle.input_space.specs.TaskParts.{task_with}
use Rattle.check_core.specs.Decisions.{sources_step}
use Rattle.file_commands.proofs.Stopping.{stopped}
use Rattle.check_core.proofs.Reporting.{four_of_five, stopped_by}
use Rattle.check_core.proofs.checking.read.Goals as goal

pub returns : goal.returns
returns c =
    four_of_five c.args.texts.now c.bounds-item.result c.reference-item.result c.submission-item.result c.rules-item.result _ _ _ _ c.requires.five
    c.bounds-item.is c.reference-item.is c.submission-item.is c.rules-item.is c.deref.ensures.value c.deref-2.ensures.value c.deref-3.ensures.value c.deref-4.ensures.value
    (λ s. s.gives (task_with c.in_ok-read_task.field-0)) c.in_ok-read_task.ensures.read

pub returns-in_err-read_task : goal.returns-in_err-read_task
returns-in_err-read_task c =
    let P : Refusal → Type 0 = (sources_step (c.deref.result.now ∷ c.deref-2.result.now ∷ c.deref-3.result.now ∷ c.deref-4.result.now ∷ [] ∷ [])).refuses in
    stopped _ P _ c.from_residual.result (stop_of c.in_err-read_task.field-0.0) c.from_residual.ensures.1
    (stopped_by P P (λ r h. h) c.in_err-read_task.field-0.0 c.in_err-read_task.ensures.refused)
    (λ q h. four_of_five c.args.texts.now c.bounds-item.result c.reference-item.result c.submission-item.result c.rules-item.result _ _ _ _ c.requires.five
    c.bounds-item.is c.reference-item.is c.submission-item.is c.rules-item.is c.deref.ensures.value c.deref-2.ensures.value c.deref-3.ensures.value c.deref-4.ensures.value
    (λ s. s.refuses q) h)
