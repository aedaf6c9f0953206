pub mod Sides
pub mod LimitFaults
pub mod MeaningFaults
pub mod Walks
pub mod FaultLaws
