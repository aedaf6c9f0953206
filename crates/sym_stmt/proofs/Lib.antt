pub mod LocalNames
pub mod Arguments
pub mod Headers
pub mod Scopes
pub mod ProgramFacts
pub mod Rewritten
pub mod Calls
mod CallLevels
mod ConstantEnds
mod KnownPicks
mod KnownRuns
