pub mod Narrow
pub mod Sparing
pub mod Walking
pub mod Explained
pub mod Learning
