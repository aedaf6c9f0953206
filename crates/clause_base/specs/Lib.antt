pub mod Literals
pub mod Formulas
pub mod Follows
pub mod Logs
pub mod LogLaws
pub mod Solving
pub mod Readings
