-- the next selection that agrees, after those that are passed by
use Rattle.std.proofs.Common.{List, IfOk, subst}
use Rattle.std.specs.Prelude.{MatchOption}
use Rattle.cegis_loop.specs.Space.{IsLow}
use Rattle.input_space.specs.declared.case.Case.{Case}
use Rattle.input_space.specs.TaskParts.{task_with}
use Rattle.list_questions.specs.Answering.{IsProposed, NoneLow}
use Rattle.list_questions.specs.Asking.{Asking}
use Rattle.input_space.specs.TaskSpace.{space}
use Rattle.list_questions.proofs.questions.ListQuestions.next_within.Goals as goal

pub returns-clause-found : goal.returns-clause-found
returns-clause-found c =
    let k = task_with c.self.inside.runs.task.now in
    let most = c.args.most in
    subst (λ (a : Asking). IfOk c.next.result (IsProposed a most)) c.self.view_is
    (subst (λ (xs : List Case). IfOk c.next.result (λ o. MatchOption o (NoneLow k most xs) (IsLow (space k 1) most xs))) c.items.ensures c.next.ensures.found)
