pub mod Inflows
pub mod Passes
pub mod Tables
pub mod Views
