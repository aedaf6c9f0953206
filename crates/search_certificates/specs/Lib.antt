pub mod Searches
pub mod Places
pub mod Certified
