pub mod CheckedRuns
pub mod Keeping
pub mod TypedLaws
