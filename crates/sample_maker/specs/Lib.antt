pub mod Samples
pub mod Versions
