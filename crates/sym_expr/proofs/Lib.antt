pub mod Settling
pub mod Walks
pub mod PlainTypes
pub mod Calling
pub mod Faults
