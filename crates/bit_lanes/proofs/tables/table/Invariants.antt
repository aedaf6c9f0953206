use Rattle.std.proofs.Common.{◌≡◌, map, take}
use Rattle.bit_words.specs.Words.{nat_of}
use Rattle.bit_lanes.specs.Lane.{lane_bit}
use Rattle.bit_lanes.proofs.tables.table.Given as goal

abbrev pub invariant-loop-lane : goal.invariant-loop-lane
invariant-loop-lane l =
    l.table ≡ nat_of (map (λ n. lane_bit n l.digit) (take l.lane l.column))
