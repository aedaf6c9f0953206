pub mod Sequences
pub mod Operations
pub mod Parts
pub mod Typed
