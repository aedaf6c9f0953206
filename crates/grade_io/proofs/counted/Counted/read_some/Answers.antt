-- The calls: those that a signal interrupted, and then one, or too many of them.
use Rattle.grade_io.proofs.Turning.{ends, fails}
use Rattle.grade_io.proofs.counted.Counted.read_some.Goals as goal

pub returns-in-Ok-clause-calls : goal.returns-in-Ok-clause-calls
returns-in-Ok-clause-calls g c =
    ends _ _ _ _ c.loop-tries._tries c.loop-tries-test.true c.loop-tries.invariant.turns c.in-Ok.ensures.turn

pub returns-in-Err-Failed-clause-calls : goal.returns-in-Err-Failed-clause-calls
returns-in-Err-Failed-clause-calls g c =
    fails c.in-Err-Failed.field-0 _ _ _ c.loop-tries._tries c.in-Err-Failed.field-0-is c.loop-tries-test.true c.loop-tries.invariant.turns c.in-Err-Failed.ensures.turn
