use Rattle.std.proofs.Common.{length, subst, sym}
use Rattle.std.specs.List.{Contains}
use Rattle.bounds_reader.specs.declared.bounds.Bounds.{Bounds}
use Rattle.coding_laws.specs.Alphabets.{HasPrintable}
use Rattle.input_space.specs.declared.case.Case.{Case}
use Rattle.input_space.specs.TaskParts.{task_with}
use Rattle.input_space.specs.TaskSpace.{wanted_inputs}
use Rattle.solver_questions.specs.Asking.{Asking, space_of, task_of, topic_of}
use Rattle.solver_questions.specs.Replies.{IsInputFor, IsSessionOf}
use Rattle.solver_questions.proofs.Sought.{found_input, looked_is_wanted, no_input, of_nothing, of_values, own_session, spells_some}
use Rattle.solver_questions.proofs.questions.SolverQuestions.ask_input.Goals as goal

pub decode_case-requires-clause-spelled : goal.decode_case-requires-clause-spelled
decode_case-requires-clause-spelled c =
    let k = task_with c.self.inside.task.now in
    let kept = c.self.inside.kept in
    let f = of_values k kept c.args.query c.rest.result c.in_ok-finding.field-0.session.log.steps c.in_ok-finding.field-0.finding c.in-Values.values
    c.in-Values.is c.in_ok-finding.ensures.finding in
    spells_some k kept c.args.query c.in-Values.values c.requires f

pub keep-requires-clause-wanted : goal.keep-requires-clause-wanted
keep-requires-clause-wanted c =
    let k = task_with c.self.inside.task.now in
    let kept = c.self.inside.kept in
    let f = of_values k kept c.args.query c.rest.result c.in_ok-finding.field-0.session.log.steps c.in_ok-finding.field-0.finding c.in-Values.values
    c.in-Values.is c.in_ok-finding.ensures.finding in
    let x = c.in_ok-case-in-Values.case in
    let looked = found_input k kept c.args.query c.in-Values.values 0 x c.requires f c.in_ok-case-in-Values.ensures in
    subst (λ (a : Asking). Contains (wanted_inputs (task_of a)) c.in_ok-copy-in-Values.field-0) c.self.view_is
    (subst (Contains (wanted_inputs k)) (sym c.in_ok-copy-in-Values.ensures) (looked_is_wanted k c.args.query 0 x looked))

pub keep-requires-clause-session : goal.keep-requires-clause-session
keep-requires-clause-session c =
    let k = task_with c.self.inside.task.now in
    let x = c.in_ok-finding.field-0.session in
    subst (λ (a : Asking). IsSessionOf (task_of a) a.kept x.query (length x.log.steps) x) c.self.view_is
    (own_session k c.self.inside.kept c.args.query c.rest.result x c.in_ok-finding.ensures.session)

pub tell-requires-clause-session : goal.tell-requires-clause-session
tell-requires-clause-session c =
    let k = task_with c.self.inside.task.now in
    let x = c.in_ok-finding.field-0.session in
    subst (λ (a : Asking). IsSessionOf (task_of a) a.kept x.query (length x.log.steps) x) c.self.view_is
    (own_session k c.self.inside.kept c.args.query c.rest.result x c.in_ok-finding.ensures.session)

pub returns-in_ok-keep-in-Values-clause-found : goal.returns-in_ok-keep-in-Values-clause-found
returns-in_ok-keep-in-Values-clause-found c =
    let k = task_with c.self.inside.task.now in
    let kept = c.self.inside.kept in
    let f = of_values k kept c.args.query c.rest.result c.in_ok-finding.field-0.session.log.steps c.in_ok-finding.field-0.finding c.in-Values.values
    c.in-Values.is c.in_ok-finding.ensures.finding in
    let x = c.in_ok-case-in-Values.case in
    subst (λ (a : Asking). IsInputFor (space_of (topic_of a)) c.args.query x) c.self.view_is
    (found_input k kept c.args.query c.in-Values.values c.self.inside.budget x c.requires f c.in_ok-case-in-Values.ensures)

pub returns-in_ok-tell-in-Nothing-clause-nothing :
    goal.returns-in_ok-tell-in-Nothing-clause-nothing
returns-in_ok-tell-in-Nothing-clause-nothing c =
    let k = task_with c.self.inside.task.now in
    let kept = c.self.inside.kept in
    let none = of_nothing k kept c.args.query c.rest.result c.in_ok-finding.field-0.session.log.steps c.in_ok-finding.field-0.finding
    c.in-Nothing.is c.in_ok-finding.ensures.finding in
    let printable = subst (λ (b : Bounds). HasPrintable b) c.bounds.ensures c.alphabets_are_printable.ensures in
    let full = c.codings_are_full.ensures k c.self.inside.budget printable in
    subst (λ (a : Asking). (x : Case) → IsInputFor (space_of (topic_of a)) c.args.query x → ⊥) c.self.view_is
    (no_input k kept c.args.query c.self.inside.budget full c.requires none)
