use Rattle.sym_values.proofs.Cuts.{joined_step}
use Rattle.sym_values.proofs.printed.push_words.Goals as goal

pub loop-i-preserved : goal.loop-i-preserved
loop-i-preserved g c = joined_step c.args.out.now c.loop-i.out c.push_bits.new.out c.args.words.now c.loop-i.i _ _ c.at-word.ensures c.as_slice.ensures c.loop-i.invariant c.in_ok-push_bits.ensures
