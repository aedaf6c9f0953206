pub mod Shorter
pub mod Readings
pub mod Sound
pub mod Elements
pub mod Stopping
pub mod Complete
pub mod Between
