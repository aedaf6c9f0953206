-- one case and one session more
use Rattle.std.proofs.Common.{◌≡◌, ◌≤◌, ◌+◌, ◌-◌, ◌++◌, ◌∷◌, [], arith, length, subst, sym}
use Rattle.std.specs.List.{Contains}
use Rattle.input_space.specs.Sessions.{logged}
use Rattle.input_space.specs.TaskSpace.{wanted_inputs}
use Rattle.solver_questions.specs.Asking.{Asking, task_of}
use Rattle.solver_questions.specs.Replies.{IsSessionOf}
use Rattle.solver_questions.proofs.Growing.{logged_more, without_last, with_case}
use Rattle.solver_questions.proofs.questions.SolverQuestions.keep.Goals as goal

pub invariant_of-self-in-Err : goal.invariant_of-self-in-Err
invariant_of-self-in-Err c =
    let i = c.self.inside in
    let grown : c.push.new.self ≡ i.kept ++ c.args.case ∷ [] = c.in_ok-push.ensures.more in
    let back : c.pop.new.self ≡ i.kept = without_last i.kept c.args.case c.push.new.self c.pop.new.self grown c.pop.ensures.rest in
    let same : c.push-2.new.self ≡ i.sessions = c.in-Err.ensures.as_before in
    rw (back, same) c.self.invariant

pub returns-in-Err-clause-as_before : goal.returns-in-Err-clause-as_before
returns-in-Err-clause-as_before c =
    let i = c.self.inside in
    let grown : c.push.new.self ≡ i.kept ++ c.args.case ∷ [] = c.in_ok-push.ensures.more in
    let back : c.pop.new.self ≡ i.kept = without_last i.kept c.args.case c.push.new.self c.pop.new.self grown c.pop.ensures.rest in
    let same : c.push-2.new.self ≡ i.sessions = c.in-Err.ensures.as_before in
    rw (back, same) c.self.view_is

pub invariant_of-self-2 : goal.invariant_of-self-2
invariant_of-self-2 c =
    let i = c.self.inside in
    let a : Asking = record { parts = i.task.now; budget = i.budget; kept = i.kept; sessions = i.sessions } in
    let x = c.args.session in
    let n = length x.log.steps in
    let own = subst (λ (b : Asking). IsSessionOf (task_of b) b.kept x.query n x) (sym c.self.view_is) c.requires.session in
    let within = subst (λ (b : Asking). logged b.sessions + n ≤ b.budget) (sym c.self.view_is) c.requires.within in
    let wanted = subst (λ (b : Asking). Contains (wanted_inputs (task_of b)) c.args.case) (sym c.self.view_is) c.requires.wanted in
    let kept : c.push.new.self ≡ i.kept ++ c.args.case ∷ [] = c.in_ok-push.ensures.more in
    let pushed : c.push-2.new.self ≡ i.sessions ++ x ∷ [] = c.in_default.ensures.more in
    let before = c.self.invariant.count_is in
    let steps = c.steps_in-more.ensures in
    let grown = logged_more i.sessions x in
    rw (kept, pushed) (record {
      count_is = omega arith;
      asking = with_case a c.args.case x n c.self.invariant.asking wanted own within;
    })
