-- the report of what a proof shows
use Rattle.std.proofs.Common.{refl}
use Rattle.clause_base.specs.Logs.{Refutes}
use Rattle.formula_commands.specs.Decisions.{BadStep, Proved, WrongClaim}
use Rattle.formula_commands.proofs.Reporting.{is_not_so, judged_report}
use Rattle.formula_commands.proofs.TextModels.{proved_by}
use Rattle.formula_commands.proofs.judging.judged.Goals as goal

pub returns-then-not-refutes : goal.returns-then-not-refutes
returns-then-not-refutes c =
    let steps = c.args.log.now.steps in
    judged_report c.args.formula steps WrongClaim _ _ c.verdict.result
    c.verdict.ensures.text c.verdict.ensures.status c.verdict.ensures.kept (λ w. refl) refl
    (λ cnf proof texts. record { formula = c.args.formula; steps = steps; texts = texts; left = is_not_so c.refutes.result (Refutes steps) c.refutes.ensures c.if-not-refutes.true })

pub returns-in-Some : goal.returns-in-Some
returns-in-Some c =
    let steps = c.args.log.now.steps in
    judged_report c.args.formula steps (BadStep c.in-Some.step) _ _ c.bad_step.result
    c.bad_step.ensures.text c.bad_step.ensures.status c.bad_step.ensures.kept (λ w. refl) refl
    (λ cnf proof texts. record {
      formula = c.args.formula;
      steps = steps;
      texts = texts;
      refutes = c.refutes.ensures.0 c.if-not-refutes.false;
      first = rw c.in-Some.is at c.in_ok-step.ensures;
    })

pub returns-in-None : goal.returns-in-None
returns-in-None c =
    let steps = c.args.log.now.steps in
    judged_report c.args.formula steps Proved _ _ c.verdict-in-None.result
    c.verdict-in-None.ensures.text c.verdict-in-None.ensures.status c.verdict-in-None.ensures.kept (λ w. refl) refl
    (λ cnf proof texts. proved_by c.kept_is_true.ensures c.what_follows_holds.ensures.refuted cnf proof c.args.formula steps texts
    (rw c.in-None.is at c.in_ok-step.ensures) (c.refutes.ensures.0 c.if-not-refutes.false))
