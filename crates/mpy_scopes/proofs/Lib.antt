pub mod Counting
pub mod Numbering
pub mod Places
pub mod Positions
pub mod Soonest
