use Rattle.task_bits.proofs.Later.{arguments_later}
use Rattle.bit_tests.proofs.circuits.outcome.Goals as goal

pub candidates-requires-clause-args : goal.candidates-requires-clause-args
candidates-requires-clause-args g c =
    arguments_later c.picks_of.ensures.keeps c.requires
