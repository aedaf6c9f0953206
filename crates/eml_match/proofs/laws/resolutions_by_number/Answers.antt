use Rattle.eml_match.proofs.Digits.{counted, resolved_at}
use Rattle.eml_match.proofs.laws.resolutions_by_number.Goals as goal

pub returns-clause-counted : goal.returns-clause-counted
returns-clause-counted c = counted

pub returns-clause-resolved : goal.returns-clause-resolved
returns-clause-resolved c = resolved_at
