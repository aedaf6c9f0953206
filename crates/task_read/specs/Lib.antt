pub mod Errors
pub mod ProgramLaws
pub mod Sources
pub mod Steps
pub mod TaskLaws
pub mod TaskSteps
pub mod TypedPrograms
