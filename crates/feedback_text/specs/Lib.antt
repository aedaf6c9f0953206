pub mod Answers
pub mod AnswerViews
pub mod Messages
pub mod Reports
pub mod ReportViews
pub mod EditRules
