pub mod Programs
pub mod FactSlots
pub mod Levels
pub mod ProgramLaws
pub mod ConstantEnds
pub mod Beginnings
