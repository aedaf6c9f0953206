pub mod Faultless
pub mod Walks
