mod WorkedExamples
pub mod Causes
pub mod Characters
pub mod DigitValues
pub mod Joining
pub mod LeastLaws
pub mod LineCuts
pub mod LineParts
pub mod Longest
pub mod PieceForms
pub mod PieceLengths
pub mod TokenLaws
pub mod TokenSpans
pub mod WordLaws
