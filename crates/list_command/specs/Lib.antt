pub mod Words
pub mod Requests
pub mod Decisions
pub mod Texts
pub mod Commands
pub mod Reports
pub mod Claims
