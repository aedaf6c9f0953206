pub mod Programs
pub mod Statements
pub mod Terms
