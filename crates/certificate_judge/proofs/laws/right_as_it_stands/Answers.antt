use Rattle.certificate_judge.proofs.RightLaws.{as_it_stands}
use Rattle.certificate_judge.proofs.laws.right_as_it_stands.Goals as goal

pub returns : goal.returns
returns c = as_it_stands
