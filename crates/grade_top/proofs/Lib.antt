mod Claims
mod DecidingLaws
mod Decimals
mod KnownLengths
mod OneCommand
pub mod OneOutcome
mod PrintedPrograms
mod ReadingLaws
mod SampleLaws
