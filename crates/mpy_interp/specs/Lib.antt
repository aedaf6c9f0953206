pub mod Answers
pub mod Completions
pub mod Ends
pub mod Frames
pub mod Operands
