-- That what a text spells is proper.
pub mod ProperTerminals
pub mod ProperTerms
pub mod ProperItems
pub mod ProperBlocks
