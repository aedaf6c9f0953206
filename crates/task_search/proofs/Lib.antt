pub mod Ending
pub mod Trails
