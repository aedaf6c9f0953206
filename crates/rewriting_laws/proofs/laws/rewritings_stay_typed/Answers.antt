use Rattle.rewriting_laws.proofs.Typed.{still_types}
use Rattle.rewriting_laws.proofs.laws.rewritings_stay_typed.Goals as goal

pub returns : goal.returns
returns c = λ rules T s p entry n es types. still_types rules T s p entry types n es
