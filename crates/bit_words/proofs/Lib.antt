pub mod Kept
pub mod Pushes
pub mod Naturals
pub mod Integers
pub mod Signs
pub mod Products
pub mod Quotients
pub mod Floors
pub mod Powers
pub mod Constants
pub mod Decided
mod WorkedExamples
