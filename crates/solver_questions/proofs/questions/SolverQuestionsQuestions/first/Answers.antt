use Rattle.std.proofs.Common.{◌≡◌, [], subst, sym}
use Rattle.cegis_loop.specs.declared.asked.Asked.{Asked}
use Rattle.cegis_loop.specs.Asking.{OnNothing}
use Rattle.input_space.specs.declared.case.Case.{Case}
use Rattle.input_space.specs.TaskSpace.{wanted_inputs}
use Rattle.solver_questions.specs.Asking.{task_of}
use Rattle.solver_questions.specs.Replies.{asked_of}
use Rattle.solver_questions.proofs.Sought.{no_first, on_nothing}
use Rattle.solver_questions.proofs.questions.SolverQuestionsQuestions.first.Goals as goal

pub returns-clause-nothing : goal.returns-clause-nothing
returns-clause-nothing c =
    let k = task_of c.args.self.now in
    subst (λ (a : Asked Case). OnNothing a (wanted_inputs k ≡ [])) (sym c.answered.ensures)
    (on_nothing (asked_of c.ask_input-found.result) (no_first k) c.ask_input-found.ensures.nothing)
