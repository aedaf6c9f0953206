use Rattle.std.proofs.Common.{◌≡◌, ◌↔◌, subst, sym, true}
use Rattle.input_space.specs.declared.session.Query.{Query}
use Rattle.input_space.specs.Sessions.{question_of}
use Rattle.input_space.specs.Statements.{IsAnswered}
use Rattle.input_space.specs.TaskCoding.{coding}
use Rattle.input_space.specs.TaskParts.{task_with}
use Rattle.input_space.specs.TaskSpace.{space}
use Rattle.query_build.proofs.goals.goal.Goals as goal

pub returns-in_ok-first-in-First-clause-value : goal.returns-in_ok-first-in-First-clause-value
returns-in_ok-first-in-First-clause-value g c budget vs =
    let k = task_with c.args.task.now in
    subst (λ (q : Query). (g.V.Logic.reads c.first_goal.new.g vs c.in_ok-first-in-First.first ≡ true)
    ↔ IsAnswered (space k budget) (coding k) c.args.kept.now (question_of q) vs)
    (sym c.in-First.is) (c.in_ok-first-in-First.ensures.value budget vs)

pub returns-in_ok-fail-in-Fail-clause-value : goal.returns-in_ok-fail-in-Fail-clause-value
returns-in_ok-fail-in-Fail-clause-value g c budget vs =
    let k = task_with c.args.task.now in
    subst (λ (q : Query). (g.V.Logic.reads c.fail_goal.new.g vs c.in_ok-fail-in-Fail.fail ≡ true)
    ↔ IsAnswered (space k budget) (coding k) c.args.kept.now (question_of q) vs)
    (sym c.in-Fail.is) (c.in_ok-fail-in-Fail.ensures.value budget vs)
