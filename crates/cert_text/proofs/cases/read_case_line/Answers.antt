use Rattle.std.proofs.Common.{Err, ap}
use Rattle.cert_text.proofs.LinesRead.{no_case}
use Rattle.cert_text.proofs.cases.read_case_line.Goals as goal

pub returns-in-Err-NoCase : goal.returns-in-Err-NoCase
returns-in-Err-NoCase c = no_case c.args.line.now c.in-Some.text.now c.in-Some.ensures.text (c.in-Err-NoCase.ensures.no_case (ap Err c.in-Err-NoCase.field-0-is))
