use Rattle.feedback_text.proofs.OneReport as reports
use Rattle.feedback_text.proofs.laws.one_report.Goals as goal

pub returns : goal.returns
returns c = reports.one_report
