-- Laws of lanes.
use Rattle.std.specs.Prelude.{◌≡◌, ◌<◌, ℕ, Bool, List}
use Rattle.bit_lanes.specs.Lane.{lane_of, truths_of_lane}

-- truth values of six variables are those of one of 64 lanes
abbrev pub LanesAreFew : Type 0
LanesAreFew = (vs : List Bool) → lane_of 6 vs < 64

-- each of the 64 lanes is that of its digits
abbrev pub LanesAreNumbers : Type 0
LanesAreNumbers = (lane : ℕ) → lane < 64 → lane_of 6 (truths_of_lane lane) ≡ lane
