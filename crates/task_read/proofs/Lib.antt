pub mod Answers
mod Judged
mod LeastTypes
pub mod OneAnswer
pub mod OneStep
mod ProperRules
mod ProperSides
mod ProperTerminals
mod Ready
pub mod Steps
mod Stopping
mod TaskAnswers
mod TaskReading
mod Trees
mod TypedOrFaulted
