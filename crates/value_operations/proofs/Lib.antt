pub mod Copies
pub mod Members
pub mod Wholes
