pub mod Trails
pub mod Places
pub mod Searching
