pub mod Depths
pub mod StatementPlaces
pub mod Actions
pub mod Lines
pub mod LongNames
pub mod Functions
mod LimitExamples
