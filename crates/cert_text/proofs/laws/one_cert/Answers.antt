use Rattle.cert_text.proofs.Whole.{one_cert}
use Rattle.cert_text.proofs.laws.one_cert.Goals as goal

pub returns : goal.returns
returns c = one_cert c.one_case.ensures
