pub mod Metas
pub mod OperatorSets
pub mod RuleTerminals
pub mod SideLaws
pub mod SideReading
pub mod SideViews
pub mod SidesSpelled
pub mod Singles
