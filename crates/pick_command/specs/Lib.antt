pub mod Words
pub mod Requests
pub mod Weights
pub mod Decisions
pub mod Texts
pub mod Commands
pub mod Claims
