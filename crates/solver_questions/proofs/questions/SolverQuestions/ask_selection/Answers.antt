use Rattle.std.proofs.Common.{List, length, subst, take}
use Rattle.bounds_reader.specs.declared.bounds.Bounds.{Bounds}
use Rattle.choice_tree.specs.declared.selection.Choice.{Choice}
use Rattle.cegis_loop.specs.Space.{IsLow}
use Rattle.coding_laws.specs.Alphabets.{HasPrintable}
use Rattle.input_space.specs.declared.session.Query.TheVariants as query
use Rattle.input_space.specs.TaskCoding.{coding}
use Rattle.input_space.specs.TaskParts.{task_with}
use Rattle.input_space.specs.TaskSpace.{space}
use Rattle.query_build.specs.Asking.{own_bits}
use Rattle.solver_questions.specs.Asking.{Asking, space_of, task_of, topic_of}
use Rattle.solver_questions.specs.Replies.{IsSessionOf}
use Rattle.solver_questions.proofs.Sought.{found_selection, no_selection, of_nothing, of_values, own_session, some_and}
use Rattle.solver_questions.proofs.questions.SolverQuestions.ask_selection.Goals as goal

pub decode_selection-requires-clause-spelled : goal.decode_selection-requires-clause-spelled
decode_selection-requires-clause-spelled c =
    let k = task_with c.self.inside.task.now in
    let kept = c.self.inside.kept in
    let q = query.Low c.args.most c.count-cases.result in
    let values = c.in-Values.values in
    let f = of_values k kept q c.rest.result c.in_ok-finding.field-0.session.log.steps c.in_ok-finding.field-0.finding values
    c.in-Values.is c.in_ok-finding.ensures.finding in
    some_and (IsLow (space k 0) c.args.most (take c.count-cases.result kept))
    ((coding k).choice (own_bits (coding k).choice_bits values)) (f.answers 0)

pub tell-requires-clause-session : goal.tell-requires-clause-session
tell-requires-clause-session c =
    let k = task_with c.self.inside.task.now in
    let x = c.in_ok-finding.field-0.session in
    subst (λ (a : Asking). IsSessionOf (task_of a) a.kept x.query (length x.log.steps) x) c.self.view_is
    (own_session k c.self.inside.kept (query.Low c.args.most c.count-cases.result) c.rest.result x c.in_ok-finding.ensures.session)

pub tell-requires-in-Nothing-clause-session : goal.tell-requires-in-Nothing-clause-session
tell-requires-in-Nothing-clause-session c =
    let k = task_with c.self.inside.task.now in
    let x = c.in_ok-finding.field-0.session in
    subst (λ (a : Asking). IsSessionOf (task_of a) a.kept x.query (length x.log.steps) x) c.self.view_is
    (own_session k c.self.inside.kept (query.Low c.args.most c.count-cases.result) c.rest.result x c.in_ok-finding.ensures.session)

pub returns-in_ok-tell-in-Values-clause-found : goal.returns-in_ok-tell-in-Values-clause-found
returns-in_ok-tell-in-Values-clause-found c =
    let k = task_with c.self.inside.task.now in
    let kept = c.self.inside.kept in
    let q = query.Low c.args.most c.count-cases.result in
    let values = c.in-Values.values in
    let f = of_values k kept q c.rest.result c.in_ok-finding.field-0.session.log.steps c.in_ok-finding.field-0.finding values
    c.in-Values.is c.in_ok-finding.ensures.finding in
    let s = c.in_ok-selection-in-Values.selection in
    subst (λ (a : Asking). IsLow (space_of (topic_of a)) c.args.most a.kept s) c.self.view_is
    (found_selection k kept c.args.most c.count-cases.result values c.self.inside.budget s
    c.count-cases.ensures.value f c.in_ok-selection-in-Values.ensures)

pub returns-in_ok-tell-in-Nothing-clause-nothing :
    goal.returns-in_ok-tell-in-Nothing-clause-nothing
returns-in_ok-tell-in-Nothing-clause-nothing c =
    let k = task_with c.self.inside.task.now in
    let kept = c.self.inside.kept in
    let q = query.Low c.args.most c.count-cases.result in
    let none = of_nothing k kept q c.rest.result c.in_ok-finding.field-0.session.log.steps c.in_ok-finding.field-0.finding
    c.in-Nothing.is c.in_ok-finding.ensures.finding in
    let printable = subst (λ (b : Bounds). HasPrintable b) c.bounds.ensures c.alphabets_are_printable.ensures in
    let full = c.codings_are_full.ensures k c.self.inside.budget printable in
    subst (λ (a : Asking). (s : List Choice) → IsLow (space_of (topic_of a)) c.args.most a.kept s → ⊥) c.self.view_is
    (no_selection k kept c.args.most c.count-cases.result c.self.inside.budget c.count-cases.ensures.value full none)
