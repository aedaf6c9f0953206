use Rattle.std.proofs.Common.{subst}
use Rattle.std.specs.Prelude.{All}
use Rattle.input_space.specs.Sessions.{IsBacked, IsHonest}
use Rattle.input_space.specs.TaskCoding.{coding}
use Rattle.solver_questions.specs.Asking.{Asking, space_of, task_of, topic_of}
use Rattle.solver_questions.proofs.questions.SolverQuestions.sessions.Goals as goal

pub returns-clause-backed : goal.returns-clause-backed
returns-clause-backed c =
    subst (λ (a : Asking). All (IsBacked (space_of (topic_of a)) (coding (task_of a)) a.kept) a.sessions)
    c.self.view_is c.self.invariant.asking.backed

pub returns-clause-honest : goal.returns-clause-honest
returns-clause-honest c =
    subst (λ (a : Asking). All (IsHonest (coding (task_of a))) a.sessions)
    c.self.view_is c.self.invariant.asking.honest
