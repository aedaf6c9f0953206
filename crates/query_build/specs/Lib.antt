pub mod Comparing
pub mod Inputs
pub mod Asking
