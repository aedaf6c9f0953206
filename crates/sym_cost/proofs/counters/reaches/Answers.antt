use Rattle.std.proofs.Common.{◌∙◌, arith}
use Rattle.sym_cost.proofs.Unary.{above_all, counted_above}
use Rattle.sym_cost.proofs.counters.reaches.Goals as goal

pub returns-then-number-len-clause-value : goal.returns-then-number-len-clause-value
returns-then-number-len-clause-value g c vs bound n less h =
    counted_above (g.L.Logic.reads c.args.g.now vs) c.args.counter.now bound n c.args.number
    c.at.result (omega arith) h c.at.ensures

pub returns-else-number-len-clause-value : goal.returns-else-number-len-clause-value
returns-else-number-len-clause-value g c vs bound n less h =
    c.constant-else-number-len.ensures.value vs
    ∙ above_all (g.L.Logic.reads c.args.g.now vs) c.args.counter.now bound n c.args.number less h
    (omega arith)
