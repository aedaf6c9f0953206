use Rattle.std.proofs.Common.{◌≤◌, subst, arith}
use Rattle.cert_text.specs.Certificates.{StopsAt}
use Rattle.cert_text.proofs.Whole.{end_stops, end_whole, line_low, nothing_read, number_low, reads_more, same_line, stuck_none, stuck_stops}
use Rattle.cert_text.proofs.reading.read_cert.Goals as goal

pub lines-init : goal.lines-init
lines-init c = nothing_read c.args.bytes.now

pub next-requires : goal.next-requires
next-requires c = line_low c.args.bytes.now c.lines.rest.now c.lines.line c.lines.draft c.in-Some.cut.piece.now c.in-Some.cut.rest.now c.lines.invariant c.in-Some.ensures.joined c.requires

pub overflow_add-line : goal.overflow_add-line
overflow_add-line c =
    let low : c.lines.line ≤ 1073741825 = number_low c.args.bytes.now c.lines.rest.now c.lines.line c.lines.draft c.lines.invariant c.requires in
    omega (arith, low)

pub lines-preserved : goal.lines-preserved
lines-preserved c =
    reads_more c.args.bytes.now c.lines.rest.now c.lines.line c.lines.draft c.in-Some.cut.piece.now c.in-Some.cut.rest.now c.in-Some-2.next c.lines.invariant c.in-Some.ensures.joined c.in-Some.ensures.piece (rw c.in-Some-2.is at c.in_ok-next.ensures)

-- a line that can't come next

pub returns-in_default-2-clause-syntax : goal.returns-in_default-2-clause-syntax
returns-in_default-2-clause-syntax c = λ n e x h.
    stuck_none c.one_case.ensures c.args.bytes.now c.lines.rest.now c.lines.line c.lines.draft c.lines.invariant c.in-Some.cut.piece.now c.in-Some.cut.rest.now c.in-Some.ensures.joined c.in-Some.ensures.piece (rw c.in_default-2.is at c.in_ok-next.ensures) x h

pub returns-in_default-2-clause-place : goal.returns-in_default-2-clause-place
returns-in_default-2-clause-place c = λ n e.
    subst (StopsAt c.args.bytes.now) (same_line c.lines.line n e)
    (stuck_stops c.one_case.ensures c.args.bytes.now c.lines.rest.now c.lines.line c.lines.draft c.lines.invariant c.in-Some.cut.piece.now c.in-Some.cut.rest.now c.in-Some.ensures.joined c.in-Some.ensures.piece (rw c.in_default-2.is at c.in_ok-next.ensures))

-- the end of the text

pub returns-in-None-clause-syntax : goal.returns-in-None-clause-syntax
returns-in-None-clause-syntax c = λ n e x h.
    c.in-None.ensures x (end_whole c.one_case.ensures c.args.bytes.now c.lines.rest.now c.lines.line c.lines.draft c.lines.invariant c.in_default.ensures.none x h)

pub returns-in-None-clause-place : goal.returns-in-None-clause-place
returns-in-None-clause-place c = λ n e.
    subst (StopsAt c.args.bytes.now) (same_line c.lines.line n e)
    (end_stops c.one_case.ensures c.args.bytes.now c.lines.rest.now c.lines.line c.lines.draft c.lines.invariant c.in_default.ensures.none)
