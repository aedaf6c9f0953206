pub mod EditOrder
pub mod EditRules
pub mod MessageLaws
pub mod OneReport
pub mod ReportLaws
mod WorkedExamples
