pub mod MatchViews
pub mod MatchedRules
pub mod Parts
pub mod Resolutions
