use Rattle.cert_text.proofs.CaseLines.{case_by_line}
use Rattle.cert_text.proofs.laws.case_by_line.Goals as goal

pub returns : goal.returns
returns c = case_by_line
