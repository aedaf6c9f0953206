use Rattle.std.proofs.Common.{rules}
use Rattle.feedback_text.proofs.ReportLaws.{shows_correction}
use Rattle.feedback_text.proofs.reports.correction_lines.Goals as goal

pub returns : goal.returns
returns c =
    shows_correction c.args.t.now _ _ _ _ _ c.in_ok-text.ensures c.tree.ensures c.in_ok-program.ensures (search rules)
