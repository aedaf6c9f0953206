use Rattle.certificate_judge.proofs.RightLaws.{right_accepted}
use Rattle.certificate_judge.proofs.laws.right_is_accepted.Goals as goal

pub returns : goal.returns
returns c = right_accepted c.what_follows_holds.ensures.refuted
