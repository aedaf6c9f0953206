-- a certificate of what is certified
use Rattle.input_space.specs.TaskParts.{task_with}
use Rattle.grade_core.proofs.RunLaws.{kept_for}
use Rattle.grade_core.proofs.grading.kept.Goals as goal

pub returns : goal.returns
returns c =
    let r = c.args.run.now in
    kept_for (task_with c.args.task.now) r.answer r.kept r.sessions c.in_ok-text.text.items c.in_default.not-EmptyReference c.in_default.not-NoMemory c.in_ok-text.ensures
