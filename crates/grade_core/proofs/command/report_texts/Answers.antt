-- the report is that of the answer
use Rattle.std.proofs.Common.{refl}
use Rattle.std.specs.Prelude.{option_map}
use Rattle.input_space.specs.TaskParts.{task_with}
use Rattle.grade_core.proofs.command.report_texts.Goals as goal

pub returns : goal.returns
returns c =
    let k = task_with c.in_ok-graded.graded.task in
    let shown = c.in_ok-text.ensures in
    record {
      answer = record { task = k; answer = shown.answer; cert = option_map (λ v. v.items) c.in_ok-graded.graded.cert };
      decided = record {
        task = c.in_ok-graded.ensures.task;
        answer = c.in_ok-graded.ensures.answered shown.answer shown.stands;
        cert = c.in_ok-graded.ensures.kept shown.answer shown.stands;
      };
      shows = record { text = shown.text_is; status = c.answer_status.ensures.written k shown.answer shown.stands; kept = refl };
    }
