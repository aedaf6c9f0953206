use Rattle.std.proofs.Common.{◌+◌, true, false, codes, sym, ◌∙◌, subst}
use Rattle.step_lines.proofs.Apart.{is_nil, is_not_nil}
use Rattle.step_lines.proofs.ListsRead.{unequal}
use Rattle.dimacs_text.specs.ProofTexts.{ProofStopsAt}
use Rattle.dimacs_text.proofs.ProofLines.{Logged, bad_none, bad_stops, cut_none, cut_stops, end_read, logged_more, more_none, more_stops, same_line}
use Rattle.dimacs_text.proofs.Written.{equal_texts}
use Rattle.dimacs_text.proofs.proof.read_proof.Goals as goal

pub lines-preserved : goal.lines-preserved
lines-preserved c =
    subst (Logged c.args.known c.args.vars c.args.bytes.now c.in-Some.cut.rest.now (c.lines.line + 1)) (sym c.in_ok-push.ensures.ok)
    (logged_more c.args.known c.args.vars c.args.bytes.now c.lines.rest.now c.in-Some.cut.rest.now c.in-Some.cut.piece.now c.lines.line c.lines.steps c.in-Some-2.step c.lines.invariant c.in-Some.ensures.joined (rw c.in-Some-2.is at c.in_ok-step.ensures))

-- no line with its end

pub returns-in_default-clause-line : goal.returns-in_default-clause-line
returns-in_default-clause-line c = λ n same steps h.
    cut_none c.args.known c.args.vars c.args.bytes.now c.lines.rest.now c.lines.line c.lines.steps c.lines.invariant c.in_default.ensures.none steps h

pub returns-in_default-clause-place : goal.returns-in_default-clause-place
returns-in_default-clause-place c = λ n same.
    subst (ProofStopsAt c.args.known c.args.vars c.args.bytes.now) (same_line c.lines.line n same)
    (cut_stops c.args.known c.args.vars c.args.bytes.now c.lines.rest.now c.lines.line c.lines.steps c.lines.invariant c.in_default.ensures.none)

-- the last line

pub returns-then-is_empty-clause-read : goal.returns-then-is_empty-clause-read
returns-then-is_empty-clause-read c =
    let e = c.in-Some.ensures in
    let last = equal_texts c.in-Some.cut.piece.now c.as_slice.result.now (sym c.eq.ensures ∙ c.if-eq.true) ∙ c.as_slice.ensures in
    end_read c.args.known c.args.vars c.args.bytes.now c.lines.rest.now c.lines.line c.lines.steps c.lines.invariant c.in-Some.cut.piece.now c.in-Some.cut.rest.now e.joined e.piece last (is_nil c.in-Some.cut.rest.now (sym c.if-is_empty.true ∙ c.is_empty.ensures))

pub returns-then-eq-clause-line : goal.returns-then-eq-clause-line
returns-then-eq-clause-line c = λ n same steps h.
    (let e = c.in-Some.ensures in
    let last = equal_texts c.in-Some.cut.piece.now c.as_slice.result.now (sym c.eq.ensures ∙ c.if-eq.true) ∙ c.as_slice.ensures in
    more_none c.args.known c.args.vars c.args.bytes.now c.lines.rest.now c.lines.line c.lines.steps c.lines.invariant c.in-Some.cut.piece.now c.in-Some.cut.rest.now e.joined e.piece last (is_not_nil c.in-Some.cut.rest.now (sym c.if-is_empty.false ∙ c.is_empty.ensures)) steps h)

pub returns-then-eq-clause-place : goal.returns-then-eq-clause-place
returns-then-eq-clause-place c = λ n same.
    (let e = c.in-Some.ensures in
    let last = equal_texts c.in-Some.cut.piece.now c.as_slice.result.now (sym c.eq.ensures ∙ c.if-eq.true) ∙ c.as_slice.ensures in
    subst (ProofStopsAt c.args.known c.args.vars c.args.bytes.now) (same_line (c.lines.line + 1) n same)
    (more_stops c.args.known c.args.vars c.args.bytes.now c.lines.rest.now c.lines.line c.lines.steps c.lines.invariant c.in-Some.cut.piece.now c.in-Some.cut.rest.now e.joined e.piece last (is_not_nil c.in-Some.cut.rest.now (sym c.if-is_empty.false ∙ c.is_empty.ensures))))

-- a line that is no step

pub returns-in_default-2-clause-line : goal.returns-in_default-2-clause-line
returns-in_default-2-clause-line c = λ n same steps h.
    (let e = c.in-Some.ensures in
    let other = unequal c.eq.result c.in-Some.cut.piece.now c.as_slice.result.now (codes "end") c.eq.ensures c.as_slice.ensures c.if-eq.false in
    bad_none c.args.known c.args.vars c.args.bytes.now c.lines.rest.now c.lines.line c.lines.steps c.lines.invariant c.in-Some.cut.piece.now c.in-Some.cut.rest.now e.joined e.piece (rw c.in_default-2.is at c.in_ok-step.ensures) other steps h)

pub returns-in_default-2-clause-place : goal.returns-in_default-2-clause-place
returns-in_default-2-clause-place c = λ n same.
    (let e = c.in-Some.ensures in
    let other = unequal c.eq.result c.in-Some.cut.piece.now c.as_slice.result.now (codes "end") c.eq.ensures c.as_slice.ensures c.if-eq.false in
    subst (ProofStopsAt c.args.known c.args.vars c.args.bytes.now) (same_line c.lines.line n same)
    (bad_stops c.args.known c.args.vars c.args.bytes.now c.lines.rest.now c.lines.line c.lines.steps c.lines.invariant c.in-Some.cut.piece.now c.in-Some.cut.rest.now e.joined e.piece (rw c.in_default-2.is at c.in_ok-step.ensures) other))
