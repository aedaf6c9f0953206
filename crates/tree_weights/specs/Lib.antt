pub mod Frames
pub mod Functions
pub mod LiftedParts
pub mod Nodes
pub mod RootTypes
pub mod TypeLaws
pub mod Views
pub mod Weights
