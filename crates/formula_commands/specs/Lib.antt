pub mod Words
pub mod Requests
pub mod Models
pub mod Decisions
pub mod Texts
pub mod Commands
pub mod Claims
