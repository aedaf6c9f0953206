use Rattle.cegis_loop.proofs.Counted.{few_questions}
use Rattle.cegis_loop.proofs.laws.few_questions.Goals as goal

pub returns : goal.returns
returns g c = λ topic. few_questions (g.Q.Questions.space topic)
