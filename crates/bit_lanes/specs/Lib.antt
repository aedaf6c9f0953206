pub mod Lane
pub mod LaneCases
pub mod LaneLaws
pub mod Columns
pub mod Digits
