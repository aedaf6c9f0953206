use Rattle.step_lines.proofs.Apart.{is_nil, is_not_nil}
use Rattle.cert_text.proofs.ClausesRead.{clause_behind, clause_read}
use Rattle.cert_text.proofs.clauses.read_clause.Goals as goal

pub returns-then-not-is_empty : goal.returns-then-not-is_empty
returns-then-not-is_empty c = λ x s.
    (let found = rw c.in-Some-2.is at c.in_ok-found.ensures in
    clause_behind c.args.vars c.args.line.now c.in-Some.text.now c.in-Some.ensures c.in-Some-2.found.lits c.in-Some-2.found.behind.now found x s (is_not_nil c.in-Some-2.found.behind.now c.if-not-is_empty.ensures))

pub returns : goal.returns
returns c =
    let found = rw c.in-Some-2.is at c.in_ok-found.ensures in
    clause_read c.args.vars c.args.line.now c.in-Some.text.now c.in-Some.ensures c.in-Some-2.found.lits c.in-Some-2.found.behind.now found c.clause_of.result (is_nil c.in-Some-2.found.behind.now c.if-not-is_empty.ensures) c.clause_of.ensures
