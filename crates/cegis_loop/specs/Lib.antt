pub mod Space
pub mod State
pub mod Asking
pub mod Order
pub mod OrderLaws
pub mod Answers
pub mod WholeAnswers
pub mod Searching
