pub mod Counts
pub mod Levels
pub mod Live
pub mod Order
pub mod Plans
pub mod Rows
pub mod Walks
