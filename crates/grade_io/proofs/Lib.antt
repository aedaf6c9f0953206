pub mod Added
pub mod CallList
pub mod KnownBytes
pub mod LongFile
pub mod OnePuts
pub mod Putting
pub mod Turning
