use Rattle.std.proofs.Common.{◌+◌, sym, ◌∙◌}
use Rattle.std.proofs.lemmas.Bool.{true≢false}
use Rattle.input_space.specs.TaskParts.{task_with}
use Rattle.solver_questions.specs.Replies.{own_of}
use Rattle.solver_questions.proofs.Refuting.{none_empty, not_refuted, refuted}
use Rattle.solver_questions.proofs.Replied.{found_by, is_session, nothing_by}
use Rattle.solver_questions.proofs.reply.ask_solver.Goals as goal

pub returns-in-Holds-clause-session : goal.returns-in-Holds-clause-session
returns-in-Holds-clause-session c =
    let k = task_with c.args.task.now in
    let f = c.in_ok-formula.formula in
    let of = c.in_ok-formula.ensures in
    let said = c.in-Holds.ensures in
    let values = c.in-Holds.values in
    let log = c.in-Holds.log in
    let d = own_of k c.args.query + 1 in
    let logs = said.answer.log in
    let model = said.answer.holds in
    is_session k c.args.kept.now c.args.query c.args.budget f log
    (record { cases = c.requires.cases; states = of.states; own = of.own; some = of.some; few = of.few.0 })
    logs.follows
    (said.fresh of.none_empty)
    (said.narrow d of.led)
    (λ h. none_empty values log.steps
    (c.what_follows_holds.ensures.holds f.vars f.clauses log.steps values logs.follows model.satisfied))
    logs.numbered logs.within

pub returns-in-Holds-clause-finding : goal.returns-in-Holds-clause-finding
returns-in-Holds-clause-finding c =
    let k = task_with c.args.task.now in
    let f = c.in_ok-formula.formula in
    let of = c.in_ok-formula.ensures in
    let said = c.in-Holds.ensures in
    let values = c.in-Holds.values in
    let log = c.in-Holds.log in
    let logs = said.answer.log in
    let model = said.answer.holds in (
      not_refuted log.steps (none_empty values log.steps
          (c.what_follows_holds.ensures.holds f.vars f.clauses log.steps values logs.follows model.satisfied)),
      found_by k c.args.kept.now c.args.query f values
          (record { cases = c.requires.cases; states = of.states; own = of.own; some = of.some; few = of.few.0 })
          model,
    )

pub returns-in-Refuted-clause-session : goal.returns-in-Refuted-clause-session
returns-in-Refuted-clause-session c =
    let k = task_with c.args.task.now in
    let f = c.in_ok-formula.formula in
    let of = c.in_ok-formula.ensures in
    let said = c.in-Refuted.ensures in
    let log = c.in-Refuted.log in
    let d = own_of k c.args.query + 1 in
    let logs = said.answer.log in
    let refutes = said.answer.refuted in
    is_session k c.args.kept.now c.args.query c.args.budget f log
    (record { cases = c.requires.cases; states = of.states; own = of.own; some = of.some; few = of.few.0 })
    logs.follows
    (said.fresh of.none_empty)
    (said.narrow d of.led)
    (λ h. absurd (true≢false (sym (refuted log.steps refutes) ∙ h)))
    logs.numbered logs.within

pub returns-in-Refuted-clause-finding : goal.returns-in-Refuted-clause-finding
returns-in-Refuted-clause-finding c =
    let k = task_with c.args.task.now in
    let f = c.in_ok-formula.formula in
    let of = c.in_ok-formula.ensures in
    let said = c.in-Refuted.ensures in
    let log = c.in-Refuted.log in
    let logs = said.answer.log in
    let refutes = said.answer.refuted in (
      refuted log.steps refutes,
      nothing_by c.what_follows_holds.ensures.refuted k c.args.kept.now c.args.query f log
          (record { cases = c.requires.cases; states = of.states; own = of.own; some = of.some; few = of.few.0 })
          logs.follows refutes,
    )

pub returns-in-Spent-clause-session : goal.returns-in-Spent-clause-session
returns-in-Spent-clause-session c =
    let k = task_with c.args.task.now in
    let f = c.in_ok-formula.formula in
    let of = c.in_ok-formula.ensures in
    let said = c.in-Spent.ensures in
    let log = c.in-Spent.log in
    let d = own_of k c.args.query + 1 in
    let logs = said.answer.log in
    let spent = said.answer.spent in
    is_session k c.args.kept.now c.args.query c.args.budget f log
    (record { cases = c.requires.cases; states = of.states; own = of.own; some = of.some; few = of.few.0 })
    logs.follows
    (said.fresh of.none_empty)
    (said.narrow d of.led)
    (λ h. spent.none_empty)
    logs.numbered logs.within

pub returns-in-Spent-clause-finding : goal.returns-in-Spent-clause-finding
returns-in-Spent-clause-finding c =
    let log = c.in-Spent.log in
    let spent = c.in-Spent.ensures.answer.spent in
    (not_refuted log.steps spent.none_empty, spent.many)
