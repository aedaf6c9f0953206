pub mod Building
pub mod LeastSizes
pub mod Parts
pub mod Programs
pub mod Sides
pub mod Spots
pub mod Statements
