-- one literal more
use Rattle.formula_commands.proofs.ValueLines.{values_more}
use Rattle.formula_commands.proofs.writing.true_literals.Goals as goal

pub loop-i-preserved : goal.loop-i-preserved
loop-i-preserved c = values_more c.args.values.now c.loop-i.i c.at.result c.loop-i.lits.items c.push.new.self.items c.at.ensures c.loop-i.invariant c.in_ok-push.ensures.items
