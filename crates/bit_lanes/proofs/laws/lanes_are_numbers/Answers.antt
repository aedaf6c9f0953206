use Rattle.bit_lanes.proofs.LaneNumbers.{lanes_numbered}
use Rattle.bit_lanes.proofs.laws.lanes_are_numbers.Goals as goal

pub returns : goal.returns
returns c = lanes_numbered
