use Rattle.cegis_loop.proofs.RuledOut.{any_ruled_out}
use Rattle.cegis_loop.proofs.laws.any_ruled_out.Goals as goal

pub returns : goal.returns
returns g c = λ topic. any_ruled_out (g.Q.Questions.space topic)
