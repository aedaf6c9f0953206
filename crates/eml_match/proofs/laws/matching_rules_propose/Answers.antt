use Rattle.eml_match.proofs.Proposing.{propose_from}
use Rattle.eml_match.proofs.laws.matching_rules_propose.Goals as goal

pub returns : goal.returns
returns c = λ here σ rules t. propose_from here σ 0 rules t
