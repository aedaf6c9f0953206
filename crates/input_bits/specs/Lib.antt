pub mod Layout
pub mod Known
pub mod Cases
