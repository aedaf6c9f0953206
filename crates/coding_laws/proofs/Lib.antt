pub mod Digits
pub mod Standing
pub mod Words
pub mod SpelledValues
pub mod SpelledMembers
pub mod SpelledSelections
pub mod FullCodings
pub mod Decided
