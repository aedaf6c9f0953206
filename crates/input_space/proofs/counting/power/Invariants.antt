use Rattle.std.proofs.Common.{◌≡◌, ◌^◌, min}
use Rattle.input_space.proofs.counting.power.Given as goal

abbrev pub invariant-loop-turn : goal.invariant-loop-turn
invariant-loop-turn l = l.power ≡ min (l.base ^ l._turn) 1000000000000
