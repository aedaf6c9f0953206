use Rattle.std.proofs.Common.{arith}
use Rattle.std.proofs.lemmas.Grind.{common_steps}
use Rattle.tree_weights.proofs.LiftedStatements.{program_lifted}
use Rattle.tree_weights.proofs.lift_statements.lift.Goals as goal

pub returns : goal.returns
returns c =
    program_lifted c.loop-func.items.items c.args.p.now.funcs.items.items
    (grind (arith, common_steps))
