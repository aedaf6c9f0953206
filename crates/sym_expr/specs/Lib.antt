pub mod Signatures
pub mod Giving
pub mod Bodiless
