use Rattle.dimacs_text.proofs.Written.{written_more}
use Rattle.dimacs_text.proofs.proof.write_steps.Goals as goal

pub loop-i-preserved : goal.loop-i-preserved
loop-i-preserved c =
    written_more c.args.steps.now c.loop-i.i c.at.result.now c.args.out.now.items c.loop-i.out.items c.write_step.new.out.items c.at.ensures c.loop-i.invariant c.in_ok-write_step.ensures
