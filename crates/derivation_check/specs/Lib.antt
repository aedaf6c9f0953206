pub mod Marks
pub mod Soundness
