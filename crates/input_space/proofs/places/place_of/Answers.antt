use Rattle.std.proofs.Common.{ap, ◌-◌, arith}
use Rattle.input_space.proofs.Orders.{rest_below}
use Rattle.input_space.proofs.places.place_of.Goals as goal

pub returns-clause-rest : goal.returns-clause-rest
returns-clause-rest c =
    rest_below c.args.base c.args.least c.loop-more.more _ _ c.args.i c.loop-more.rest (ap (λ n. n - 1) c.lengths-last.ensures) (omega arith) c.requires.within c.loop-more.invariant
