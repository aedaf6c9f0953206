use Rattle.std.proofs.Common.{◌∙◌, ◌-◌}
use Rattle.sym_cost.proofs.Unary.{counted, raised_above, raised_below}
use Rattle.sym_cost.proofs.counters.raised_bit.Goals as goal

pub returns-then-i-first-clause-value : goal.returns-then-i-first-clause-value
returns-then-i-first-clause-value g c vs bound n h =
    c.constant.ensures.value vs ∙ raised_below c.args.i c.args.first n c.if-i-first.true

pub returns-else-i-first-clause-value : goal.returns-else-i-first-clause-value
returns-else-i-first-clause-value g c vs bound n h =
    counted (g.L.Logic.reads c.args.g.now vs) c.args.counter.now bound n (c.args.i - c.args.first)
    c.at.result h c.at.ensures ∙ raised_above c.args.i c.args.first n c.if-i-first.false
