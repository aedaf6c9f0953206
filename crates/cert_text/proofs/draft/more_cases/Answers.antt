use Rattle.cert_text.proofs.DraftsRead.{behind_cases}
use Rattle.cert_text.proofs.draft.more_cases.Goals as goal

pub returns-in-None : goal.returns-in-None
returns-in-None c = behind_cases c.args.cert c.args.line.now c.gone_on.result (rw c.in-None.is at c.in_ok-case.ensures) c.gone_on.ensures
