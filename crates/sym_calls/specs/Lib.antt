pub mod Alike
pub mod Pairs
pub mod Remembered
pub mod Reuse
