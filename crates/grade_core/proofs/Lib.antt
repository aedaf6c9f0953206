pub mod AnswerLaws
pub mod DecidingLaws
pub mod FailingLaws
pub mod GradeClaims
pub mod OneGrading
mod RunLaws
mod ShownLaws
