pub mod Choosing
pub mod Counted
pub mod Kept
pub mod Spelled
pub mod Unary
