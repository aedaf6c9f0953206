use Rattle.std.proofs.Common.{codes}
use Rattle.cert_text.proofs.LinesRead.{fail_read, low_read, no_query}
use Rattle.step_lines.proofs.ListsRead.{unequal}
use Rattle.cert_text.proofs.queries.read_query.Goals as goal

pub returns-in-Some : goal.returns-in-Some
returns-in-Some c = low_read c.args.count c.args.line.now c.in-Some.text.now c.low_query.result c.in-Some.ensures c.low_query.ensures

pub returns-in-Some-behind : goal.returns-in-Some-behind
returns-in-Some-behind c =
    let other = unequal c.eq.result c.args.line.now c.as_slice.result.now (codes "session first") c.eq.ensures c.as_slice.ensures c.if-eq.false in
    fail_read c.args.count c.args.line.now other c.in_default.ensures c.in-Some-behind.text.now c.fail_query.result c.in-Some-behind.ensures c.fail_query.ensures

pub returns-in-None : goal.returns-in-None
returns-in-None c = λ x s.
    (let other = unequal c.eq.result c.args.line.now c.as_slice.result.now (codes "session first") c.eq.ensures c.as_slice.ensures c.if-eq.false in
    no_query c.args.count c.args.line.now other c.in_default.ensures x s c.in-None.ensures)
