pub mod Arithmetic
pub mod FrameWeights
pub mod LiftedStatements
pub mod LiftedTrees
pub mod NodeWeights
pub mod RootTypeLaws
pub mod Spans
mod WorkedExamples
pub mod Counted
