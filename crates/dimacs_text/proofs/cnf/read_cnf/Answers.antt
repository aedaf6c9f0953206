use Rattle.std.proofs.Common.{subst}
use Rattle.dimacs_text.specs.CnfTexts.{StopsAt}
use Rattle.dimacs_text.proofs.Whole.{end_none, end_stops, reads_more, same_line, stuck_none, stuck_stops}
use Rattle.dimacs_text.proofs.cnf.read_cnf.Goals as goal

pub lines-preserved : goal.lines-preserved
lines-preserved c =
    let e = c.in-Some.ensures in
    reads_more c.args.bytes.now c.lines.rest.now c.in-Some.cut.rest.now c.in-Some.cut.piece.now c.lines.line c.lines.draft c.in-Some-2.next c.lines.invariant e.cut e.shorter e.inside (rw c.in-Some-2.is at c.in_ok-next.ensures)

-- a line with a word that can't come next

pub returns-in_default-2-clause-line : goal.returns-in_default-2-clause-line
returns-in_default-2-clause-line c = λ n same vars clauses h.
    (let e = c.in-Some.ensures in
    stuck_none c.args.bytes.now c.lines.rest.now c.lines.line c.lines.draft c.lines.invariant c.in-Some.cut.piece.now c.in-Some.cut.rest.now e.cut e.inside (rw c.in_default-2.is at c.in_ok-next.ensures) vars clauses h)

pub returns-in_default-2-clause-place : goal.returns-in_default-2-clause-place
returns-in_default-2-clause-place c = λ n same.
    (let e = c.in-Some.ensures in
    subst (StopsAt c.args.bytes.now) (same_line c.lines.line n same)
    (stuck_stops c.args.bytes.now c.lines.rest.now c.lines.line c.lines.draft c.lines.invariant c.in-Some.cut.piece.now c.in-Some.cut.rest.now e.cut e.inside (rw c.in_default-2.is at c.in_ok-next.ensures)))

-- an end before enough clauses

pub returns-in-None-clause-line : goal.returns-in-None-clause-line
returns-in-None-clause-line c = λ n same vars clauses h.
    end_none c.args.bytes.now c.lines.rest.now c.lines.line c.lines.draft c.lines.invariant c.in_default.ensures.none c.in-None.ensures vars clauses h

pub returns-in-None-clause-place : goal.returns-in-None-clause-place
returns-in-None-clause-place c = λ n same.
    subst (StopsAt c.args.bytes.now) (same_line c.lines.line n same)
    (end_stops c.args.bytes.now c.lines.rest.now c.lines.line c.lines.draft c.lines.invariant c.in_default.ensures.none c.in-None.ensures)
