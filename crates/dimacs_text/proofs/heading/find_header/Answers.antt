use Rattle.std.proofs.Common.{sym}
use Rattle.dimacs_text.proofs.Heads.{bad_line, no_more_lines}
use Rattle.dimacs_text.proofs.heading.find_header.Goals as goal

pub returns-in_default : goal.returns-in_default
returns-in_default c = no_more_lines c.args.bytes.now c.lines.rest.now c.lines.line c.lines.invariant c.in_default.ensures.none

pub returns-in-None : goal.returns-in-None
returns-in-None c =
    bad_line c.args.bytes.now c.lines.rest.now c.in-Some.cut.rest.now c.in-Some.cut.piece.now c.lines.line c.lines.invariant c.in-Some.ensures.cut (sym c.if-not-is_passed.ensures)
    (λ v n h. c.in-None.ensures (record { vars = v; count = n }) h)
