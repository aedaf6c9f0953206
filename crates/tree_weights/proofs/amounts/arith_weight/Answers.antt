use Rattle.std.proofs.Common.{◌*◌, ap}
use Rattle.tree_weights.proofs.Arithmetic.{cube}
use Rattle.tree_weights.proofs.amounts.arith_weight.Goals as goal

pub returns-in-Power-default-clause-weight : goal.returns-in-Power-default-clause-weight
returns-in-Power-default-clause-weight c =
    rw c.in-Power-default.is-0 (ap (λ n. 16 * n) (cube c.args.l.now.width))
