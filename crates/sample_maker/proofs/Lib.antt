mod Blocks
pub mod Lengths
