use Rattle.input_space.proofs.Closing.{behind_backslash, behind_other}
use Rattle.input_space.proofs.pieces.closed_len.Goals as goal
use Rattle.input_space.proofs.pieces.closed_len.Goals.{then-escaped, else-escaped+else-c-quote}

pub loop-i-preserved : goal.loop-i-preserved
loop-i-preserved c =
    elim c.if-escaped.branch [
      | then-escaped w ↦ behind_backslash _ _ _ c.loop-i-test.true _ _ _ w.if-escaped.true w.escaped-is c.loop-i.invariant
      | else-escaped+else-c-quote w ↦ behind_other _ _ _ c.loop-i-test.true _ _ _ w.if-escaped.false w.if-c-quote.false w.escaped-is c.loop-i.invariant
    ]
