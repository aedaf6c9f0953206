pub mod ExpressionTypes
pub mod OneOfSeveral
pub mod SmallCosts
