pub mod Arms
pub mod Depths
pub mod Lookups
pub mod Turning
