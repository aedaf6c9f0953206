pub mod Notations
pub mod Picked
