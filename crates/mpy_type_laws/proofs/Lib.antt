pub mod OneAnswer
pub mod Targets
pub mod WholeFacts
pub mod Nothing
