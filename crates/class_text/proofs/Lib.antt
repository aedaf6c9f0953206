pub mod Names
pub mod Forks
pub mod Reading
pub mod WholeNumbers
