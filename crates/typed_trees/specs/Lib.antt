pub mod Wholes
pub mod TypedStatements
pub mod Locals
pub mod TypingLaws
