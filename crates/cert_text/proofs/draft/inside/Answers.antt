use Rattle.std.proofs.Common.{length, ap, ◌∙◌}
use Rattle.cert_text.proofs.DraftsRead.{clause_added, closed_behind, step_added}
use Rattle.cert_text.proofs.LinesRead.{in_range_of}
use Rattle.cert_text.proofs.draft.inside.Goals as goal

pub with_clause-requires : goal.with_clause-requires
with_clause-requires c =
    let r = rw c.in-Some.is at c.in_ok-clause.ensures in
    in_range_of c.args.session.formula.vars c.in-Some.clause.lits r.1.kept

pub returns-in-Some : goal.returns-in-Some
returns-in-Some c =
    let r = rw c.in-Some.is at c.in_ok-clause.ensures in
    clause_added c.args.cert c.args.session c.args.line.now c.in-Some.clause c.in_ok-with_clause.field-0 r.0 r.1 c.in_ok-with_clause.ensures

pub returns-in-Some-2 : goal.returns-in-Some-2
returns-in-Some-2 c =
    let r = rw c.in-Some-2.is at c.in_ok-step.ensures in
    step_added c.args.cert c.args.session c.args.line.now c.in-Some-2.step c.in_ok-with_step.field-0 (λ e. c.if-len-eq0.false (c.len.ensures ∙ ap length e)) r c.in_ok-with_step.ensures

pub returns : goal.returns
returns c =
    closed_behind c.args.cert c.args.session c.args.line.now c.closed.result (rw c.in_default.is at c.in_ok-clause.ensures)
    (λ e. c.if-len-eq0.false (c.len.ensures ∙ ap length e)) (rw c.in_default-2.is at c.in_ok-step.ensures) c.closed.ensures
