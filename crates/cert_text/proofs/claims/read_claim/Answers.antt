use Rattle.std.proofs.Common.{codes}
use Rattle.cert_text.proofs.LinesRead.{no_claim}
use Rattle.step_lines.proofs.ListsRead.{unequal}
use Rattle.cert_text.proofs.claims.read_claim.Goals as goal

pub returns-in_err-text : goal.returns-in_err-text
returns-in_err-text c =
    let other = unequal c.eq.result c.args.line.now c.as_slice.result.now (codes "claim none") c.eq.ensures c.as_slice.ensures c.if-eq.false in
    rw c.from_residual-in_err-text.ensures (λ x s. no_claim c.args.line.now x s other c.in_default.ensures c.in_err-text.ensures)
