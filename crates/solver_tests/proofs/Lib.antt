pub mod LaneTypes
