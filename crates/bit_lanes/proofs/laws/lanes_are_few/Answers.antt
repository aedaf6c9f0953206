use Rattle.bit_lanes.proofs.LaneNumbers.{lanes_few}
use Rattle.bit_lanes.proofs.laws.lanes_are_few.Goals as goal

pub returns : goal.returns
returns c = lanes_few
