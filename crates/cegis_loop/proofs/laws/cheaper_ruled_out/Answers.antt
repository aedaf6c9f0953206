use Rattle.cegis_loop.proofs.RuledOut.{cheaper_ruled_out}
use Rattle.cegis_loop.proofs.laws.cheaper_ruled_out.Goals as goal

pub returns : goal.returns
returns g c = λ topic. cheaper_ruled_out (g.Q.Questions.space topic)
