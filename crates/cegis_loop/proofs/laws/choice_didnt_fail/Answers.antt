use Rattle.cegis_loop.proofs.RuledOut.{choice_didnt_fail}
use Rattle.cegis_loop.proofs.laws.choice_didnt_fail.Goals as goal

pub returns : goal.returns
returns g c = λ topic. choice_didnt_fail (g.Q.Questions.space topic)
