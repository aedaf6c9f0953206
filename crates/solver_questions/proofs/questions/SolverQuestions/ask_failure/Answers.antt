use Rattle.std.proofs.Common.{List, subst}
use Rattle.choice_tree.specs.declared.selection.Choice.{Choice}
use Rattle.cegis_loop.specs.Asking.{OnNothing}
use Rattle.cegis_loop.specs.Space.{IsFail}
use Rattle.input_space.specs.declared.case.Case.{Case}
use Rattle.solver_questions.specs.Asking.{space_of, topic_of}
use Rattle.solver_questions.proofs.questions.SolverQuestions.ask_failure.Goals as goal

pub returns-clause-nothing : goal.returns-clause-nothing
returns-clause-nothing c =
    subst (λ (s : List Choice). OnNothing c.in_ok-found.found
    ((x : Case) → IsFail (space_of (topic_of c.args.self.now)) s x → ⊥))
    c.in_ok-selection.ensures c.in_ok-found.ensures.nothing
