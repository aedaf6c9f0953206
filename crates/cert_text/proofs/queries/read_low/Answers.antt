use Rattle.step_lines.proofs.Apart.{is_not_nil}
use Rattle.cert_text.proofs.LinesRead.{few_cases, no_bound, no_cases, no_third}
use Rattle.cert_text.proofs.queries.read_low.Goals as goal

pub returns-then-not-is_empty : goal.returns-then-not-is_empty
returns-then-not-is_empty c = λ x s.
    (let e = c.in_ok-first.ensures in
    let f = c.in_ok-second.ensures in
    no_third c.args.count c.args.text.now x.most x.cases s c.in_ok-first.first.piece.now c.in_ok-first.first.rest.now e.joined e.piece e.rest c.in_ok-second.second.piece.now c.in_ok-second.second.rest.now f.joined f.piece f.rest (is_not_nil c.in_ok-second.second.rest.now c.if-not-is_empty.ensures))

pub returns-in_err-most : goal.returns-in_err-most
returns-in_err-most c =
    let e = c.in_ok-first.ensures in
    rw c.from_residual-in_err-most.ensures (λ x s. no_bound c.args.count c.args.text.now x.most x.cases s c.in_ok-first.first.piece.now c.in_ok-first.first.rest.now e.joined e.piece e.rest c.in_err-most.ensures)

pub returns-in_err-cases : goal.returns-in_err-cases
returns-in_err-cases c =
    let e = c.in_ok-first.ensures in
    let f = c.in_ok-second.ensures in
    rw c.from_residual-in_err-cases.ensures (λ x s. no_cases c.args.count c.args.text.now x.most x.cases s c.in_ok-first.first.piece.now c.in_ok-first.first.rest.now e.joined e.piece e.rest c.in_ok-second.second.piece.now c.in_ok-second.second.rest.now f.joined f.piece f.rest c.in_err-cases.ensures)

pub returns-then-cases-count : goal.returns-then-cases-count
returns-then-cases-count c = λ x s.
    (let e = c.in_ok-first.ensures in
    let f = c.in_ok-second.ensures in
    few_cases c.args.count c.args.text.now x.most x.cases s c.in_ok-first.first.piece.now c.in_ok-first.first.rest.now e.joined e.piece e.rest c.in_ok-second.second.piece.now c.in_ok-second.second.rest.now f.joined f.piece f.rest c.in_ok-cases.cases c.in_ok-cases.ensures c.if-cases-count.true)
