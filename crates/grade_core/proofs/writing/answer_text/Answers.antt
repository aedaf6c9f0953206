-- the report of the answer, or the refusal of its reference
use Rattle.input_space.specs.TaskParts.{task_with}
use Rattle.grade_core.proofs.DecidingLaws.{told_reported}
use Rattle.grade_core.proofs.writing.answer_text.Goals as goal

pub report-requires : goal.report-requires
report-requires c = told_reported (task_with c.args.graded.now.task) c.args.graded.now.answer c.requires c.in_default.not-EmptyReference
