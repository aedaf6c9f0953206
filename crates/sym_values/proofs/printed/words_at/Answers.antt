use Rattle.sym_values.proofs.Cuts.{cut_step}
use Rattle.sym_values.proofs.printed.words_at.Goals as goal

pub loop-i-preserved : goal.loop-i-preserved
loop-i-preserved g c = cut_step c.args.width c.args.from c.loop-i.i c.args.bits.now c.loop-i.words _ _ c.loop-i.invariant c.in_ok-word_at.ensures c.in_ok-push.ensures.ok
