pub mod Copies
pub mod Division
pub mod Leasts
pub mod ListTests
pub mod Opening
pub mod Progressions
pub mod Repetition
pub mod Sameness
pub mod Texts
pub mod ValueTests
mod TypingExamples
mod WorkedExamples
