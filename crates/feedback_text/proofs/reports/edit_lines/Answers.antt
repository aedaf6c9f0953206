use Rattle.feedback_text.proofs.ReportLaws.{shows_edits}
use Rattle.feedback_text.proofs.reports.edit_lines.Goals as goal

pub returns : goal.returns
returns c =
    shows_edits c.args.t.now _ _ _ _ _ c.tree.ensures c.in_ok-edits.ensures.replaced c.rules.ensures c.in_ok-lines.ensures
