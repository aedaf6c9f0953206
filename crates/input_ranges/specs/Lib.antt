pub mod Bits
pub mod Alphabets
