use Rattle.std.proofs.Common.{◌++◌, ◌∙◌, ap, codes, rules}
use Rattle.std.specs.Fmt.{decimal}
use Rattle.input_space.specs.TaskParts.{task_with}
use Rattle.feedback_text.proofs.ReportLaws.{corrected_report, failing_report, spent_report}
use Rattle.feedback_text.proofs.reports.report.Goals as goal

pub returns-in_ok-extend_from_slice-in-Corrected-3 :
    goal.returns-in_ok-extend_from_slice-in-Corrected-3
returns-in_ok-extend_from_slice-in-Corrected-3 c =
    corrected_report (task_with c.args.t.now) _ _ _ _ _ _ c.in-Corrected.is c.in_ok-correction_lines-in-Corrected.ensures (search rules)

pub returns-in_ok-extend_from_slice-in-NoCorrection :
    goal.returns-in_ok-extend_from_slice-in-NoCorrection
returns-in_ok-extend_from_slice-in-NoCorrection c =
    failing_report (task_with c.args.t.now) _ _ _ c.in-NoCorrection.is (search rules)

pub returns-in_ok-extend_from_slice-in-Spent-3 :
    goal.returns-in_ok-extend_from_slice-in-Spent-3
returns-in_ok-extend_from_slice-in-Spent-3 c =
    spent_report (task_with c.args.t.now) _ _ _ _ c.in-Spent.is
    (c.in_ok-extend_from_slice-in-Spent-3.ensures.items
    ∙ ap (λ s. s ++ codes "\n") (c.in_ok-push_number-in-Spent-2.ensures
    ∙ ap (λ s. s ++ decimal c.in-Spent.at_least) (c.in_ok-extend_from_slice-in-Spent-2.ensures.items
    ∙ ap (λ s. s ++ codes "\nat least cost ") (c.in_ok-push_number-in-Spent.ensures
    ∙ ap (λ s. s ++ decimal c.in-Spent.budget) (c.in_ok-extend_from_slice-in-Spent.ensures.items
    ∙ ap (λ s. s ++ codes "budget spent ") c.new-text.ensures.items)))))
