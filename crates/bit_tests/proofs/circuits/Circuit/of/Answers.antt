use Rattle.bit_tests.proofs.circuits.Circuit.of.Goals as goal

pub outcome-requires : goal.outcome-requires
outcome-requires c = rw c.bounds.ensures at c.in_ok-args.ensures.made
