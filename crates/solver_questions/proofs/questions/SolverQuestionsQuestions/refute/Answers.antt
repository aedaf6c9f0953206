use Rattle.std.proofs.Common.{◌∙◌, ap, subst, sym}
use Rattle.choice_tree.specs.Choices.{member_of}
use Rattle.choice_tree.specs.Selections.{plain}
use Rattle.cegis_loop.specs.declared.asked.Asked.{Asked}
use Rattle.cegis_loop.specs.Asking.{OnNothing}
use Rattle.cegis_loop.specs.Space.{AgreesOn}
use Rattle.input_space.specs.declared.case.Case.{Case}
use Rattle.input_space.specs.TaskSpace.{wanted_inputs}
use Rattle.query_build.specs.Asking.{MakesProgram}
use Rattle.solver_questions.specs.Asking.{Asking, space_of, task_of, topic_of}
use Rattle.solver_questions.specs.Replies.{asked_of}
use Rattle.solver_questions.proofs.Sought.{agrees_on_all, on_nothing}
use Rattle.solver_questions.proofs.questions.SolverQuestionsQuestions.refute.Goals as goal

pub returns-clause-nothing : goal.returns-clause-nothing
returns-clause-nothing c =
    let s = c.args.c.now in
    let k = task_of c.args.self.now in
    let budget = c.args.self.now.budget in
    let made = c.selections_make_programs.ensures c.tree-tree.result.now (member_of s) in
    let makes = subst (λ (a : Asking). MakesProgram (task_of a) (member_of s)) c.self.view_is
    (made.0, made.1 ∙ ap (plain (member_of s)) c.tree-tree.ensures) in
    subst (λ (a : Asked Case). OnNothing a (AgreesOn (space_of (topic_of c.args.self.now)) (wanted_inputs k) s))
    (sym c.answered.ensures)
    (on_nothing (asked_of c.ask_failure-found.result)
    (agrees_on_all k budget s makes.0 makes.1 c.agreement_is_decided.ensures)
    c.ask_failure-found.ensures.nothing)
