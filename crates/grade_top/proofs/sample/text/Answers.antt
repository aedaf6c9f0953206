-- the lines of a selection stand for its answer
use Rattle.input_space.specs.TaskParts.{task_with}
use Rattle.grade_top.proofs.SampleLaws.{corrected}
use Rattle.grade_top.proofs.sample.text.Goals as goal

pub returns-in-Corrected : goal.returns-in-Corrected
returns-in-Corrected c =
    corrected c.args.number (task_with c.args.graded.now.task) _ _ _ _ c.in-Corrected.fails c.in-Corrected.is c.corrected_lines.result c.corrected_lines.ensures
