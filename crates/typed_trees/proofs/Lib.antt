pub mod PartTypes
pub mod WholeDrafts
pub mod GrownTypes
pub mod NumberedTypes
pub mod WholeShapes
pub mod GrownStatements
pub mod TypedBodies
pub mod TypedPlaces
pub mod TypedFunctions
pub mod WholeRules
pub mod LocalTypes
pub mod StatementsFollow
mod WorkedExamples
