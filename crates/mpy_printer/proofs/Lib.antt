pub mod Indentation
pub mod Joining
