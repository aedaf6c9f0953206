-- the four lines, with the number of statements of the submission
use Rattle.std.proofs.Common.{length, ap, ◌∙◌}
use Rattle.mpy_tree.specs.View.{routines_of}
use Rattle.mpy_limits.specs.Limits.{all_statements}
use Rattle.input_space.specs.TaskParts.{task_with}
use Rattle.grade_top.proofs.SampleLaws.{lines_are}
use Rattle.grade_top.proofs.sample.lines.Goals as goal

pub returns : goal.returns
returns c =
    ap (λ v. v.items) c.into_bytes.ensures.value ∙ c.in_ok-text.ensures.ok
    ∙ lines_are c.args.number c.in-Some.statements c.args.edits c.args.cost (task_with c.args.task.now)
    (c.in-Some.ensures.found ∙ ap (λ p. length (all_statements (routines_of p))) c.submission.ensures)
