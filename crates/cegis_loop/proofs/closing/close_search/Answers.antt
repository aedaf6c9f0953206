use Rattle.std.proofs.Common.{subst}
use Rattle.cegis_loop.specs.Answers.{IsAnswer}
use Rattle.cegis_loop.proofs.Ending.{whole_nothing, whole_no_case, whole_spent}
use Rattle.cegis_loop.proofs.closing.close_search.Goals as goal

pub returns-in-Nothing-clause-answer : goal.returns-in-Nothing-clause-answer
returns-in-Nothing-clause-answer g c =
    let s = g.Q.Questions.space (g.Q.Questions.topic c.args.q.now) in
    let a = g.Q.Questions.seen c.args.q.now in
    whole_nothing s a (subst (IsAnswer s a) c.in-Nothing.is c.requires.answer)

pub returns-in-NoCase-clause-answer : goal.returns-in-NoCase-clause-answer
returns-in-NoCase-clause-answer g c =
    let s = g.Q.Questions.space (g.Q.Questions.topic c.args.q.now) in
    let a = g.Q.Questions.seen c.args.q.now in
    whole_no_case s a (subst (IsAnswer s a) c.in-NoCase.is c.requires.answer)

pub returns-in-Spent-clause-answer : goal.returns-in-Spent-clause-answer
returns-in-Spent-clause-answer g c =
    let s = g.Q.Questions.space (g.Q.Questions.topic c.args.q.now) in
    let a = g.Q.Questions.seen c.args.q.now in
    whole_spent s a c.in-Spent.at_least (subst (IsAnswer s a) c.in-Spent.is c.requires.answer)
