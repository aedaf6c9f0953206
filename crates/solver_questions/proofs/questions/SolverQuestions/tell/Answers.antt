-- one session more
use Rattle.std.proofs.Common.{◌≡◌, ◌≤◌, ◌+◌, ◌++◌, ◌∷◌, [], arith, length, subst, sym}
use Rattle.input_space.specs.Sessions.{logged}
use Rattle.solver_questions.specs.Asking.{Asking, task_of}
use Rattle.solver_questions.specs.Replies.{IsSessionOf}
use Rattle.solver_questions.proofs.Growing.{logged_more, with_session}
use Rattle.solver_questions.proofs.questions.SolverQuestions.tell.Goals as goal

pub invariant_of-self-2 : goal.invariant_of-self-2
invariant_of-self-2 c =
    let i = c.self.inside in
    let a : Asking = record { parts = i.task.now; budget = i.budget; kept = i.kept; sessions = i.sessions } in
    let x = c.args.session in
    let n = length x.log.steps in
    let own = subst (λ (b : Asking). IsSessionOf (task_of b) b.kept x.query n x) (sym c.self.view_is) c.requires.session in
    let within = subst (λ (b : Asking). logged b.sessions + n ≤ b.budget) (sym c.self.view_is) c.requires.within in
    let pushed : c.push.new.self ≡ i.sessions ++ x ∷ [] = c.in_ok-push.ensures.more in
    let before = c.self.invariant.count_is in
    let steps = c.steps_in-more.ensures in
    let grown = logged_more i.sessions x in
    rw pushed (record {
      count_is = omega arith;
      asking = with_session a x n c.self.invariant.asking own within;
    })
