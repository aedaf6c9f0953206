use Rattle.std.proofs.Common.{◌≡◌, ◌+◌}
use Rattle.input_space.specs.Counts.{lists_count}
use Rattle.input_space.proofs.places.place_of.Given as goal

abbrev pub invariant-loop-more : goal.invariant-loop-more
invariant-loop-more l = l.i ≡ lists_count l.base l.least l.more + l.rest
