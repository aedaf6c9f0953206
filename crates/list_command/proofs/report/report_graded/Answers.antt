-- the report of each answer
use Rattle.input_space.specs.TaskParts.{task_with}
use Rattle.list_command.specs.Requests.{all_of}
use Rattle.list_command.proofs.Listed.{corrected_cost, free_by, reports_listing}
use Rattle.list_command.proofs.report.report_graded.Goals as goal

pub returns-in-Correct : goal.returns-in-Correct
returns-in-Correct c =
    let d = c.args.graded.now in
    reports_listing (all_of c.args.words.now) c.args.words.now.budget d 0 c.list_report.result
    (λ ts graded. free_by (task_with d.task) d.answer c.in-Correct.is graded.answered) c.list_report.ensures

pub returns-in_ok-_lines-in-Corrected : goal.returns-in_ok-_lines-in-Corrected
returns-in_ok-_lines-in-Corrected c =
    let d = c.args.graded.now in
    reports_listing (all_of c.args.words.now) c.args.words.now.budget d c.in-Corrected.cost c.list_report-in-Corrected.result
    (λ ts graded. corrected_cost (task_with d.task) d.answer _ c.in-Corrected.cost _ _ c.in-Corrected.is graded.answered c.in_ok-_lines-in-Corrected.ensures)
    c.list_report-in-Corrected.ensures
