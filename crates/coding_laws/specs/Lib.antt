pub mod Alphabets
pub mod CodingLaws
