pub mod Alternatives
pub mod Appending
pub mod AsItStands
pub mod Depths
pub mod FullyGrown
pub mod LeastPrograms
pub mod LeastSizes
pub mod Members
pub mod NoRules
pub mod Nodes
pub mod Programs
pub mod Sizes
pub mod SmallCosts
pub mod Spots
pub mod TreeCosts
pub mod Trunks
mod WorkedExamples
