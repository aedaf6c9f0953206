pub mod Beginning
pub mod Followed
pub mod Levelled
pub mod LiveLevels
pub mod Living
pub mod Making
pub mod Numbered
mod Ordered
pub mod Ranges
pub mod Rising
pub mod Tables
pub mod Walked
mod WorkedExamples
