use Rattle.coding_laws.proofs.Decided.{meets_or_not}
use Rattle.coding_laws.proofs.laws.agreement_is_decided.Goals as goal

pub returns : goal.returns
returns c = λ k s x p h. meets_or_not k s x p h
