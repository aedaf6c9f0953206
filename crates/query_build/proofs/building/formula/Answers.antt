use Rattle.std.proofs.Common.{◌≡◌, ◌∙◌, ◌+◌, ap, arith, sym}
use Rattle.input_space.specs.Sessions.{question_of}
use Rattle.input_space.specs.Statements.{bits_of}
use Rattle.input_space.specs.TaskCoding.{coding}
use Rattle.input_space.specs.TaskParts.{task_with}
use Rattle.query_build.proofs.Clauses.{none_empty}
use Rattle.query_build.proofs.building.formula.Goals as goal

pub returns-clause-states : goal.returns-clause-states
returns-clause-states c budget bits many =
    let k = task_with c.args.t.now in
    let start = ap (λ g. g.variables) c.in_ok-g.ensures in
    let adds = c.in_ok-goal.ensures.adds.variables in
    let own = bits_of (coding k) (question_of c.args.q.now) in
    let none : own ≡ 0 + own = omega arith in
    let all = many ∙ none ∙ sym (adds ∙ ap (λ n. n + own) start) in
    let states = c.in_ok-formula.ensures.states bits all in
    let goal = c.in_ok-goal.ensures.value budget bits in
    (λ e. goal.0 (states.0 e), λ h. states.1 (goal.1 h))

pub returns-clause-none_empty : goal.returns-clause-none_empty
returns-clause-none_empty c = none_empty c.in_ok-formula.formula.clauses c.in_ok-formula.ensures.none_empty
