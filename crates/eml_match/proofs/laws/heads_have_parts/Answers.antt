use Rattle.eml_match.proofs.HeadParts.{parts_counted}
use Rattle.eml_match.proofs.laws.heads_have_parts.Goals as goal

pub returns : goal.returns
returns c = parts_counted
