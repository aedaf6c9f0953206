mod Reading
mod Fitting
mod FileLists
mod Lines
mod WeightSums
mod EntryWeights
mod Steps
mod Asked
pub mod OneOutcome
pub mod PickClaims
