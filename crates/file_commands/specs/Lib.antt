pub mod Calls
pub mod Claims
pub mod Commands
pub mod Ends
pub mod Keeping
pub mod Reports
