use Rattle.rewriting_laws.proofs.Proper.{rewritings_proper}
use Rattle.rewriting_laws.proofs.laws.rewritings_stay_proper.Goals as goal

pub returns : goal.returns
returns c = λ g p n es rules proper. rewritings_proper g p n es rules proper
