pub mod Lines
pub mod LineForms
pub mod Limits
pub mod Words
pub mod Steps
